use Rattle.std.proofs.Common.{length}
use Rattle.order_proof.proofs.StepsLemmas.{IsReadSo}
use Rattle.order_proof.proofs.reading.read_steps.Given as goal

abbrev pub invariant-steps : goal.invariant-steps
invariant-steps l = IsReadSo l.text l.lines.rest.now l.steps.items

abbrev pub decreases-steps : goal.decreases-steps
decreases-steps l = length l.lines.rest.now
