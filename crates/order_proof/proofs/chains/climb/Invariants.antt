use Rattle.std.proofs.Common.{◌++◌, ◌≡◌}
use Rattle.order_proof.specs.Chains.{beside_up}
use Rattle.order_proof.specs.Positions.{history_at}
use Rattle.order_proof.proofs.chains.climb.Given as goal

abbrev pub invariant-scan : goal.invariant-scan
invariant-scan g l =
    l.found.items ++ beside_up (history_at (g.P.Positions.operations l.held) l.below) l.left l.current ≡ beside_up
    (history_at (g.P.Positions.operations l.held) l.end) l.left l.fn.x

abbrev pub decreases-scan : goal.decreases-scan
decreases-scan g l = l.below
