use Rattle.std.proofs.Common.{subst, ◌∙◌}
use Rattle.section_plan.specs.Rises.{IsLongestRise}
use Rattle.draft_plan.proofs.ArrangingLemmas.{stays_placed}
use Rattle.draft_plan.proofs.arranging.stays_of.Goals as goal

pub returns-clause-placed : goal.returns-clause-placed
returns-clause-placed c =
    let longest = subst (λ v. IsLongestRise v c.in_ok-stays.stays.items) c.as_slice.ensures.value c.in_ok-stays.ensures in
    stays_placed c.args.order.now c.args.pairs.now c.in_ok-places.places.items c.in_ok-stays.stays.items c.requires c.in_ok-places.ensures longest.rise

pub returns-clause-long : goal.returns-clause-long
returns-clause-long c =
    let longest = subst (λ v. IsLongestRise v c.in_ok-stays.stays.items) c.as_slice.ensures.value c.in_ok-stays.ensures in
    longest.rise.places ∙ c.in_ok-places.ensures.long

pub returns-clause-staying : goal.returns-clause-staying
returns-clause-staying c =
    let longest = subst (λ v. IsLongestRise v c.in_ok-stays.stays.items) c.as_slice.ensures.value c.in_ok-stays.ensures in
    record { places = c.in_ok-places.places.items; places_are = c.in_ok-places.ensures; longest = longest }
