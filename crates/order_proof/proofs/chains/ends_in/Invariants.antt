use Rattle.std.proofs.Common.{length, reverse, take, ◌≡◌, ◌≤◌}
use Rattle.order_proof.specs.Chains.{ends_with}
use Rattle.order_proof.specs.Positions.{history_at}
use Rattle.order_proof.proofs.chains.ends_in.Given as goal

abbrev pub invariant-scan : goal.invariant-scan
invariant-scan g l = record {
  rest : ends_with (history_at (g.P.Positions.operations l.held) l.below) l.current (reverse (take l.k l.down)) ≡ ends_with
      (history_at (g.P.Positions.operations l.held) l.end) l.fn.x (reverse l.down);
  within : l.k ≤ length l.down;
}

abbrev pub decreases-scan : goal.decreases-scan
decreases-scan g l = l.k
