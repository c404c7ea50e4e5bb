use Rattle.std.proofs.Common.{drop, length, ◌-◌, ◌≡◌, ◌≤◌}
use Rattle.order_proof.specs.Positions.{history_at}
use Rattle.order_proof.specs.Checks.{chains_decide}
use Rattle.order_proof.proofs.checking.by_chains.Given as goal

abbrev pub invariant-scan : goal.invariant-scan
invariant-scan g l = record {
  rest : chains_decide (history_at (g.P.Positions.operations l.held) l.end) l.reason (drop l.i l.xs) (drop l.i l.ys) ≡ chains_decide
      (history_at (g.P.Positions.operations l.held) l.end) l.reason l.xs l.ys;
  in_first : l.i ≤ length l.xs;
  in_second : l.i ≤ length l.ys;
}

abbrev pub decreases-scan : goal.decreases-scan
decreases-scan g l = length l.xs - l.i
