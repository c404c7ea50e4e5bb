use Rattle.std.proofs.Common.{length, reverse, take, ◌≡◌, ◌≤◌}
use Rattle.order_proof.specs.Chains.{beside_up, chain_eq}
use Rattle.order_proof.specs.Positions.{history_at}
use Rattle.order_proof.proofs.chains.goes_up.Given as goal

abbrev pub invariant-scan : goal.invariant-scan
invariant-scan g l = record {
  rest : chain_eq (beside_up (history_at (g.P.Positions.operations l.held) l.below) l.left l.current) (reverse (take l.k l.chain)) ≡ chain_eq
      (beside_up (history_at (g.P.Positions.operations l.held) l.end) l.left l.fn.x) (reverse l.chain);
  within : l.k ≤ length l.chain;
}

abbrev pub decreases-scan : goal.decreases-scan
decreases-scan g l = l.below
