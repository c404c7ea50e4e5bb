use Rattle.std.proofs.Common.{ap, ◌≡◌, subst, length, nat_eq}
use Rattle.origin_model.specs.taking.Taking.{answer}
use Rattle.origin_model.specs.edits.State.{State}
use Rattle.replica_core.specs.Decision.{answer_by_decision}
use Rattle.replica_core.proofs.DecisionLemmas.{decision_by}
use Rattle.replica_core.proofs.open_replica.OpenReplica.decision_on.Goals as goal

pub returns : goal.returns
returns c =
    let Holds : State → Type 0 = λ s. answer s.hold s.most s.held c.args.op.now ≡ answer_by_decision (nat_eq (length s.held.waiting) s.hold) c.decide.result in
    subst Holds (ap (λ x. x.state) c.self.view_is)
    (decision_by c.self.inside.hold c.self.inside.most (record { history = c.self.inside.accepted; waiting = c.self.inside.inbox.ops })
    c.args.op.now c.find.result c.verdict.result c.len.result c.len-2.result c.decide.result
    c.find.ensures.same c.find.ensures.clash c.find.ensures.absent c.verdict.ensures c.len.ensures c.len-2.ensures.len c.decide.ensures)
