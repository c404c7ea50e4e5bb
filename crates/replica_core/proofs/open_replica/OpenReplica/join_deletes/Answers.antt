use Rattle.std.proofs.Common.{false, ap, arith, length, subst, sym, ◌+◌, ◌∙◌, ◌≡◌, ◌≤◌}
use Rattle.std.specs.Prelude.{List}
use Rattle.fugue_ids.specs.declared.op.Op.{Op}
use Rattle.op_runs.specs.Deletions.{deletes_up}
use Rattle.op_runs.proofs.DeletionLemmas.{length-deletes}
use Rattle.origin_model.specs.edits.Edits.{history_with}
use Rattle.origin_model.specs.edits.State.{State, IsSound}
use Rattle.origin_model.specs.taking.Taking.{IsSettled}
use Rattle.section_catalogue.proofs.HidingRunLemmas.{however}
use Rattle.replica_core.specs.Deleting.{AreWithin, ids_from}
use Rattle.replica_core.specs.Due.{due_marks}
use Rattle.replica_core.specs.Edits.{CanJoin}
use Rattle.replica_core.specs.Replica.{replica_state}
use Rattle.replica_core.proofs.DeletingLemmas.{fewer_can}
use Rattle.replica_core.proofs.RunLemmas.{all_joined, ready_in_turn}
use Rattle.replica_core.proofs.open_replica.OpenReplica.join_deletes.Goals as goal

pub accept_deletes-requires-clause-ready : goal.accept_deletes-requires-clause-ready
accept_deletes-requires-clause-ready c =
    let i = c.self.inside in
    let ops = deletes_up c.args.first c.args.count in
    let s : State = replica_state i.number i.hold i.most i.accepted i.inbox in
    let can : CanJoin s ops = subst (λ s. CanJoin s ops) (sym (ap (λ x. x.state) c.self.view_is)) c.requires.can in
    ready_in_turn ops s.held.history s.held.waiting can.in_turn

pub accept_deletes-requires-clause-within : goal.accept_deletes-requires-clause-within
accept_deletes-requires-clause-within c =
    subst (λ (s : State). AreWithin c.args.section.now s.held.history (ids_from c.args.first c.args.count)) (sym (ap (λ x. x.state) c.self.view_is)) c.requires.within

pub invariant_of-self : goal.invariant_of-self
invariant_of-self c =
    let i = c.self.inside in
    let x = c.args.first in
    let n = c.args.count in
    let now : List Op = c.accept_deletes.new.self in
    let s : State = replica_state i.number i.hold i.most i.accepted i.inbox in
    let can : CanJoin s (deletes_up x n) = subst (λ s. CanJoin s (deletes_up x n)) (sym (ap (λ x. x.state) c.self.view_is)) c.requires.can in
    however c.accept_deletes.result n (λ e. e.done)
    (λ k. now ≡ history_with i.accepted (deletes_up x k)) _ c.accept_deletes.ensures.ok c.accept_deletes.ensures.err c.accept_deletes.ensures.fewer
    (λ k l is.
    let all = all_joined (deletes_up x k) s (fewer_can s x n k l can) c.self.invariant.sound in
    record {
      same_hold = c.self.invariant.same_hold;
      sound = subst (λ h. IsSound (replica_state i.number i.hold i.most h i.inbox)) (sym is) all.sound;
      marks = c.self.invariant.marks ∙ all.marks ∙ ap (λ h. due_marks h s.held.waiting) (sym is);
    })

pub returns-clause-settled : goal.returns-clause-settled
returns-clause-settled c =
    let i = c.self.inside in
    let x = c.args.first in
    let n = c.args.count in
    let now : List Op = c.accept_deletes.new.self in
    let s : State = replica_state i.number i.hold i.most i.accepted i.inbox in
    let can : CanJoin s (deletes_up x n) = subst (λ s. CanJoin s (deletes_up x n)) (sym (ap (λ x. x.state) c.self.view_is)) c.requires.can in
    however c.accept_deletes.result n (λ e. e.done) (λ k. now ≡ history_with i.accepted (deletes_up x k)) (IsSettled (record { history = now; waiting = i.inbox.ops }))
    c.accept_deletes.ensures.ok c.accept_deletes.ensures.err c.accept_deletes.ensures.fewer
    (λ k l is. subst (λ h. IsSettled (record { history = h; waiting = i.inbox.ops })) (sym is)
    (all_joined (deletes_up x k) s (fewer_can s x n k l can) c.self.invariant.sound).settled)

pub returns-clause-sound : goal.returns-clause-sound
returns-clause-sound c =
    let i = c.self.inside in
    let x = c.args.first in
    let n = c.args.count in
    let now : List Op = c.accept_deletes.new.self in
    let s : State = replica_state i.number i.hold i.most i.accepted i.inbox in
    let can : CanJoin s (deletes_up x n) = subst (λ s. CanJoin s (deletes_up x n)) (sym (ap (λ x. x.state) c.self.view_is)) c.requires.can in
    however c.accept_deletes.result n (λ e. e.done) (λ k. now ≡ history_with i.accepted (deletes_up x k)) (IsSound (replica_state i.number i.hold i.most now i.inbox))
    c.accept_deletes.ensures.ok c.accept_deletes.ensures.err c.accept_deletes.ensures.fewer
    (λ k l is. subst (λ h. IsSound (replica_state i.number i.hold i.most h i.inbox)) (sym is)
    (all_joined (deletes_up x k) s (fewer_can s x n k l can) c.self.invariant.sound).sound)

pub accept_deletes-requires-clause-room : goal.accept_deletes-requires-clause-room
accept_deletes-requires-clause-room c =
    let i = c.self.inside in
    let ops = deletes_up c.args.first c.args.count in
    let s : State = replica_state i.number i.hold i.most i.accepted i.inbox in
    let can : CanJoin s ops = subst (λ s. CanJoin s ops) (sym (ap (λ x. x.state) c.self.view_is)) c.requires.can in
    let room : length i.accepted + length i.inbox.ops + length ops ≤ i.most = can.room in
    omega (arith, room, c.self.invariant.sound.most_within.1, length-deletes false c.args.first c.args.count)
