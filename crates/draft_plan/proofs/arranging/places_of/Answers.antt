use Rattle.std.proofs.Common.{arith, subst}
use Rattle.std.proofs.lemmas.Grind.{common_steps}
use Rattle.draft_plan.specs.Arranging.{ArePlacesTo}
use Rattle.draft_plan.proofs.ArrangingLemmas.{places_more, places_same}
use Rattle.draft_plan.proofs.arranging.places_of.Goals as goal
use Rattle.draft_plan.proofs.arranging.places_of.Goals.{then-is_some, else-is_some}

pub order-preserved : goal.order-preserved
order-preserved c =
    elim c.if-is_some.branch [
      | then-is_some w ↦ rw w.places-is
          (places_more c.args.order.now c.args.pairs.now c.order.places.items w.put_place.new.places.items _ c.order.place c.requires c.order.invariant w.put_place.ensures
          (omega arith) (grind (arith, common_steps)) (grind (arith, common_steps)))
      | else-is_some w ↦ rw w.places-is (places_same c.args.order.now c.args.pairs.now c.order.places.items c.order.place c.order.invariant (λ some. grind (arith, common_steps)))
    ]

pub returns : goal.returns
returns c = subst (λ n. ArePlacesTo c.args.order.now c.args.pairs.now n c.order.places.items) (omega arith) c.order.invariant
