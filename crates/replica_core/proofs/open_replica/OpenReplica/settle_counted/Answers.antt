use Rattle.std.proofs.Common.{◌∙◌, ap}
use Rattle.std.specs.Prelude.{Some}
use Rattle.replica_core.specs.declared.replica.Settled.{Settled}
use Rattle.replica_core.proofs.CountLemmas.{answer_joined, answer_dropped}
use Rattle.replica_core.proofs.open_replica.OpenReplica.settle_counted.Goals as goal

pub returns-in-Some-Accepted-clause-step : goal.returns-in-Some-Accepted-clause-step
returns-in-Some-Accepted-clause-step c =
    answer_joined c.args.self.now.state.held c.step.new.self.state.held c.in_ok-_op.field-0 c.in-Some-Accepted._op c.args.tally.now
    (c.in-Some-Accepted.is ∙ ap (λ (settled : Settled). Some settled) c.in-Some-Accepted.field-0-is) c.in_ok-_op.ensures.step

pub returns-in-Some-DroppedStray-clause-step : goal.returns-in-Some-DroppedStray-clause-step
returns-in-Some-DroppedStray-clause-step c =
    answer_dropped c.args.self.now.state.held c.step.new.self.state.held c.in_ok-_op.field-0 c.in-Some-DroppedStray._op c.args.tally.now
    (c.in-Some-DroppedStray.is ∙ ap (λ (settled : Settled). Some settled) c.in-Some-DroppedStray.field-0-is) c.in_ok-_op.ensures.step
