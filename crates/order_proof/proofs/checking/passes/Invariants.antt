use Rattle.std.proofs.Common.{drop, length, ◌-◌, ◌≡◌, ◌≤◌}
use Rattle.order_proof.specs.Positions.{history_at}
use Rattle.order_proof.specs.Checks.{test}
use Rattle.order_proof.proofs.checking.passes.Given as goal

abbrev pub invariant-scan : goal.invariant-scan
invariant-scan g l = record {
  rest : test (history_at (g.P.Positions.operations l.held) l.end) (drop l.i l.steps) ≡ test
      (history_at (g.P.Positions.operations l.held) l.end) l.steps;
  within : l.i ≤ length l.steps;
}

abbrev pub decreases-scan : goal.decreases-scan
decreases-scan g l = length l.steps - l.i
