use Rattle.std.proofs.Common.{refl, subst, ◌+◌, arith}
use Rattle.memchr.specs.Find.{FindsNeedle}
use Rattle.passage_search.proofs.PlaceLemmas.{search_begins, search_finds, search_goes_on}
use Rattle.passage_search.proofs.StepLemmas.{has_some}
use Rattle.passage_search.proofs.places.places_of.Goals as goal

pub places-init : goal.places-init
places-init c =
    let text = c.args.text.now in
    let passage = c.args.passage.now in
    search_finds text passage _ 0 (omega arith) (search_begins text passage _ refl) c.place_from-next.result
    (subst (λ needle. FindsNeedle text needle 0 c.place_from-next.result) c.new.ensures c.place_from-next.ensures)

pub places-preserved : goal.places-preserved
places-preserved c =
    let text = c.args.text.now in
    let passage = c.args.passage.now in
    let at = c.in-Some.at in
    let next = c.place_after-next.result in
    let before = rw c.in-Some.is at c.places.invariant in
    let added = c.and_one-places.ensures in
    search_finds text passage c.and_one-places.result (at + 1) (omega (arith, before.1.fits, has_some passage c.requires))
    (search_goes_on text passage c.places.places at before.0 before.1 c.and_one-places.result added.count added.fresh added.kept) next
    (subst (λ needle. FindsNeedle text needle (at + 1) next) c.new.ensures c.place_after-next.ensures)
