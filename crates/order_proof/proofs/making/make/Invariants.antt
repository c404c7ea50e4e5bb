use Rattle.std.proofs.Common.{length, reverse, ◌++◌, ◌≡◌, ◌≤◌}
unfoldable use Rattle.order_proof.specs.Making.{certificate}
use Rattle.order_proof.specs.Positions.{history_at}
use Rattle.order_proof.proofs.making.make.Given as goal

abbrev pub invariant-steps : goal.invariant-steps
invariant-steps g l = record {
  rest : l.steps.items ++ certificate (history_at (g.P.Positions.operations l.held) l.end) l.claim.0 l.claim.1 ≡ certificate
      (reverse (g.P.Positions.operations l.held)) l.fn.x l.fn.y;
  within : l.end ≤ length (g.P.Positions.operations l.held);
}

abbrev pub decreases-steps : goal.decreases-steps
decreases-steps g l = l.end
