use Rattle.std.proofs.Common.{arith}
use Rattle.section_plan.proofs.orders.place_of.Goals as goal

pub returns-clause-stands : goal.returns-clause-stands
returns-clause-stands c = let there = c.requires.order.all c.args.part c.requires.within in absurd (c.places.invariant there.0 (omega (arith, there.1)) there.2)
