use Rattle.std.proofs.Common.{ap, refl, subst, sym, ◌∙◌, ◌≢◌}
use Rattle.std.specs.Prelude.{slice_get}
use Rattle.std.specs.List.{AllPairs, Contains}
use Rattle.origin_model.specs.declared.operations.Place.TheVariants.{Catalogue as catalogue}
use Rattle.origin_model.specs.order.Printed.{shown}
use Rattle.origin_model.proofs.SharedLemmas.{order_total}
use Rattle.section_catalogue.specs.Manuscript.{IsOrderedPlace}
use Rattle.run_store.specs.Cells.{shown_before}
use Rattle.catalogue_notes.proofs.OutliningLemmas.{visible_place}
use Rattle.draft_plan.proofs.resizing.number_of.Goals as goal
use Rattle.section_list.proofs.ShownLemmas.{visible_listed}

pub returns-in-Some : goal.returns-in-Some
returns-in-Some c =
    let h = c.args.replica.now.held.history in
    let s = c.args.section in
    let place = subst (IsOrderedPlace catalogue h) (sym c.catalogue.ensures.catalogue) c.places.ensures.lists.catalogue_is in
    let apart = subst (AllPairs (λ x y. x ≢ y)) (sym place.all) (order_total catalogue h c.places.ensures.sound.lawful).once in
    let member = subst (λ l. Contains l s) (sym place.visible) c.requires in
    ap (slice_get (shown catalogue h)) c.in-Some.ensures.some
    ∙ (ap (λ l. slice_get l (shown_before c.catalogue.result.now.cells s)) (sym place.visible) ∙ visible_place c.catalogue.result.now.cells s apart member)

pub returns-in-None : goal.returns-in-None
returns-in-None c =
    let h = c.args.replica.now.held.history in
    let s = c.args.section in
    let place = subst (IsOrderedPlace catalogue h) (sym c.catalogue.ensures.catalogue) c.places.ensures.lists.catalogue_is in
    let member = subst (λ l. Contains l s) (sym place.visible) c.requires in
    absurd (c.in-None.ensures.none.0 refl (visible_listed c.catalogue.result.now.cells s member))
