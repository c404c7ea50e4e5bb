use Rattle.std.proofs.Common.{ap, arith, length, subst, sym, ◌+◌, ◌∙◌, ◌≤◌}
use Rattle.fugue_ids.specs.Runs.{run_from}
use Rattle.fugue_ids.proofs.RunLemmas.{length-typed}
use Rattle.origin_model.specs.taking.Taking.{IsSettled}
use Rattle.replica_core.specs.Due.{due_marks}
use Rattle.replica_core.specs.Edits.{CanJoin}
use Rattle.origin_model.specs.edits.State.{State, IsSound}
use Rattle.replica_core.specs.Replica.{replica_state}
use Rattle.replica_core.proofs.RunLemmas.{all_joined, ready_in_turn}
use Rattle.replica_core.proofs.open_replica.OpenReplica.join_run.Goals as goal

pub invariant_of-self-2 : goal.invariant_of-self-2
invariant_of-self-2 c =
    let i = c.self.inside in
    let ops = run_from c.args.start.now c.args.text.now in
    let s : State = replica_state i.number i.hold i.most i.accepted i.inbox in
    let can : CanJoin s ops = subst (λ s. CanJoin s ops) (sym (ap (λ x. x.state) c.self.view_is)) c.requires.can in
    let all = all_joined ops s can c.self.invariant.sound in
    record {
      same_hold = c.self.invariant.same_hold;
      sound = subst (λ h. IsSound (replica_state i.number i.hold i.most h i.inbox)) (sym c.in-Ok.ensures.ok) all.sound;
      marks = c.self.invariant.marks ∙ all.marks ∙ ap (λ h. due_marks h s.held.waiting) (sym c.in-Ok.ensures.ok);
    }

pub accept_run-requires-clause-ready : goal.accept_run-requires-clause-ready
accept_run-requires-clause-ready c =
    let i = c.self.inside in
    let ops = run_from c.args.start.now c.args.text.now in
    let s : State = replica_state i.number i.hold i.most i.accepted i.inbox in
    let can : CanJoin s ops = subst (λ s. CanJoin s ops) (sym (ap (λ x. x.state) c.self.view_is)) c.requires.can in
    ready_in_turn ops s.held.history s.held.waiting can.in_turn

pub accept_run-requires-clause-room : goal.accept_run-requires-clause-room
accept_run-requires-clause-room c =
    let i = c.self.inside in
    let start = c.args.start.now in
    let ops = run_from start c.args.text.now in
    let s : State = replica_state i.number i.hold i.most i.accepted i.inbox in
    let can : CanJoin s ops = subst (λ s. CanJoin s ops) (sym (ap (λ x. x.state) c.self.view_is)) c.requires.can in
    let room : length i.accepted + length i.inbox.ops + length ops ≤ i.most = can.room in
    omega (arith, room, c.self.invariant.sound.most_within.1, length-typed start.id start.section start.left start.right c.args.text.now)

pub returns-clause-settled : goal.returns-clause-settled
returns-clause-settled c =
    let i = c.self.inside in
    let ops = run_from c.args.start.now c.args.text.now in
    let s : State = replica_state i.number i.hold i.most i.accepted i.inbox in
    let can : CanJoin s ops = subst (λ s. CanJoin s ops) (sym (ap (λ x. x.state) c.self.view_is)) c.requires.can in
    subst (λ h. IsSettled (record { history = h; waiting = i.inbox.ops })) (sym c.in-Ok.ensures.ok) (all_joined ops s can c.self.invariant.sound).settled

pub returns-clause-sound : goal.returns-clause-sound
returns-clause-sound c =
    let i = c.self.inside in
    let ops = run_from c.args.start.now c.args.text.now in
    let s : State = replica_state i.number i.hold i.most i.accepted i.inbox in
    let can : CanJoin s ops = subst (λ s. CanJoin s ops) (sym (ap (λ x. x.state) c.self.view_is)) c.requires.can in
    subst (λ h. IsSound (replica_state i.number i.hold i.most h i.inbox)) (sym c.in-Ok.ensures.ok) (all_joined ops s can c.self.invariant.sound).sound
