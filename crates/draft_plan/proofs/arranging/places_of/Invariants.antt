use Rattle.draft_plan.specs.Arranging.{ArePlacesTo}
use Rattle.draft_plan.proofs.arranging.places_of.Given as goal

abbrev pub invariant-order : goal.invariant-order
invariant-order l = ArePlacesTo l.order l.pairs l.place l.places.items
