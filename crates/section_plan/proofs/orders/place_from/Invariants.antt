use Rattle.std.specs.Prelude.{◌-◌, length}
use Rattle.section_plan.proofs.orders.place_from.Given as goal

abbrev pub decreases-places : goal.decreases-places
decreases-places l = length l.order - l.place
