use Rattle.order_proof.proofs.WayLemmas.{IsOnWay}
use Rattle.order_proof.proofs.parting.downs_of.Given as goal

abbrev pub invariant-members : goal.invariant-members
invariant-members g l = IsOnWay (g.P.Positions.operations l.held) l.end l.fn.x l.fn.y l.below l.one l.other

abbrev pub decreases-members : goal.decreases-members
decreases-members g l = l.below
