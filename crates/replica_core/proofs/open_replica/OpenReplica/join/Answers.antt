use Rattle.std.proofs.Common.{ap, ◌∷◌, ◌∙◌, [], subst, sym}
use Rattle.replica_core.specs.Edits.{CanJoin}
use Rattle.origin_model.specs.edits.State.{State}
use Rattle.replica_core.specs.Replica.{replica_state}
use Rattle.replica_core.proofs.JoinLemmas.{joined_marks, joined_stands}
use Rattle.replica_core.proofs.open_replica.OpenReplica.join.Goals as goal

pub invariant_of-self-2 : goal.invariant_of-self-2
invariant_of-self-2 c =
    let i = c.self.inside in
    let s : State = replica_state i.number i.hold i.most i.accepted i.inbox in
    let can : CanJoin s (c.args.op ∷ []) = subst (λ s. CanJoin s (c.args.op ∷ [])) (sym (ap (λ x. x.state) c.self.view_is)) c.requires in
    record {
      same_hold = c.self.invariant.same_hold;
      sound = joined_stands s c.args.op c.accept.new.self can c.self.invariant.sound c.in-Ok.ensures.ok;
      marks = c.self.invariant.marks ∙ joined_marks s c.args.op c.accept.new.self can c.in-Ok.ensures.ok;
    }

pub returns-clause-sound : goal.returns-clause-sound
returns-clause-sound c =
    let i = c.self.inside in
    let s : State = replica_state i.number i.hold i.most i.accepted i.inbox in
    let can : CanJoin s (c.args.op ∷ []) = subst (λ s. CanJoin s (c.args.op ∷ [])) (sym (ap (λ x. x.state) c.self.view_is)) c.requires in
    joined_stands s c.args.op c.accept.new.self can c.self.invariant.sound c.in-Ok.ensures.ok
