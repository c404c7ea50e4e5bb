use Rattle.std.proofs.Common.{ap, arith, refl, subst, sym, ◌+◌, ◌∙◌}
use Rattle.std.specs.Prelude.{Some}
use Rattle.origin_model.specs.declared.operations.Place.TheVariants.{Catalogue as catalogue}
use Rattle.run_store.specs.Cells.{cell_ids, shown_before}
use Rattle.section_catalogue.specs.Manuscript.{IsOrderedPlace}
use Rattle.section_catalogue.proofs.ShownLemmas.{look_ups_agree}
use Rattle.margin_notes.proofs.PlaceLemmas.{absent, counted, few_sections, in_place, not_numbered, numbered, there_in}
use Rattle.margin_notes.proofs.listing.number_of.Goals as goal

pub returns-in_err-before : goal.returns-in_err-before
returns-in_err-before c = λ h st.
    let l = c.catalogue-catalogue.result.now in
    let p = subst (IsOrderedPlace catalogue h) (sym c.catalogue-catalogue.ensures.catalogue) (look_ups_agree c.args.places.now h st).catalogue_is in
    c.from_residual.ensures ∙ sym (absent catalogue h st.lawful l p c.args.section 1 (c.in_err-before.ensures.none.0 refl))

pub overflow_add-result : goal.overflow_add-result
overflow_add-result c =
    let cells = ap (λ l. shown_before l.cells c.args.section) c.catalogue-catalogue.ensures.catalogue in
    omega (arith, c.in_ok-before.ensures.some, cells, few_sections c.args.places.now c.requires.history c.args.section c.requires.represents, c.requires.few)

pub returns-then-is_hidden : goal.returns-then-is_hidden
returns-then-is_hidden c = λ h st.
    let l = c.catalogue-catalogue.result.now in
    let p = subst (IsOrderedPlace catalogue h) (sym c.catalogue-catalogue.ensures.catalogue) (look_ups_agree c.args.places.now h st).catalogue_is in
    let m = in_place catalogue h st.lawful l p c.args.section (there_in (cell_ids l.cells) c.args.section c.in_ok-before.before c.in_ok-before.ensures.none) in
    sym (not_numbered catalogue h st.lawful l p c.args.section 1 m (sym c.is_hidden.ensures ∙ c.if-is_hidden.true))

pub returns-else-is_hidden : goal.returns-else-is_hidden
returns-else-is_hidden c = λ h st.
    let l = c.catalogue-catalogue.result.now in
    let p = subst (IsOrderedPlace catalogue h) (sym c.catalogue-catalogue.ensures.catalogue) (look_ups_agree c.args.places.now h st).catalogue_is in
    let m = in_place catalogue h st.lawful l p c.args.section (there_in (cell_ids l.cells) c.args.section c.in_ok-before.before c.in_ok-before.ensures.none) in
    ap (λ n. Some (n + 1)) (c.in_ok-before.ensures.some ∙ counted catalogue h st.lawful l p c.args.section m)
    ∙ sym (numbered catalogue h st.lawful l p c.args.section 1 m (sym c.is_hidden.ensures ∙ c.if-is_hidden.false))
