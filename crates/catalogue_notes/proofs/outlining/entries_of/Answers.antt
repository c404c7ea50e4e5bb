use Rattle.std.proofs.Common.{List, ap, arith, length, subst, sym, ◌<◌, ◌≢◌, ◌≡◌, ◌∙◌}
use Rattle.std.specs.Prelude.{slice_get}
use Rattle.std.specs.List.{AllPairs, Contains}
use Rattle.fugue_ids.specs.Identifiers.{Identifier}
use Rattle.fugue_ids.specs.declared.op.Op.{Op}
use Rattle.origin_model.specs.declared.operations.Place.TheVariants.{Catalogue as catalogue}
use Rattle.origin_model.proofs.SharedLemmas.{order_total}
use Rattle.catalogue_notes.proofs.OutliningLemmas.{entries_more, member_at, section_entry}
use Rattle.catalogue_notes.proofs.ArrangedLemmas.{arranged_shown}
use Rattle.catalogue_notes.proofs.outlining.entries_of.Goals as goal

pub entry_of-requires-clause-visible : goal.entry_of-requires-clause-visible
entry_of-requires-clause-visible c =
    let h : List Op = c.args.replica.now.held.history in
    let xs : List Identifier = c.as_slice-section-items.result.now in
    let is : xs ≡ c.args.layout.now.arrangement.sections.items = c.as_slice-section-items.ensures.value in
    let member = member_at xs c.sections.section-index c.section-item.result (omega (arith, c.sections-test.true)) c.section-item.is in
    subst (λ z. Contains z c.section-item.result) (sym c.requires.catalogue.visible)
    (arranged_shown h c.section-item.result (subst (λ z. Contains z c.section-item.result) (is ∙ c.requires.layout.arranged.sections) member))

pub entry_of-requires-clause-apart : goal.entry_of-requires-clause-apart
entry_of-requires-clause-apart c =
    subst (AllPairs (λ x y. x ≢ y)) (sym c.requires.catalogue.all) (order_total catalogue c.args.replica.now.held.history c.requires.lawful).once

pub sections-preserved : goal.sections-preserved
sections-preserved c =
    let h : List Op = c.args.replica.now.held.history in
    let xs : List Identifier = c.as_slice-section-items.result.now in
    let i = c.sections.section-index in
    let s : Identifier = c.section-item.result in
    let e = c.in_ok-entry_of.field-0 in
    let below : i < length xs = omega (arith, c.sections-test.true) in
    let is : xs ≡ c.args.layout.now.arrangement.sections.items = c.as_slice-section-items.ensures.value in
    let arranged : Contains c.args.layout.now.arrangement.sections.items s = subst (λ z. Contains z s) is (member_at xs i s below c.section-item.is) in
    entries_more h xs i s c.sections.entries.items c.push.new.self.items e below c.section-item.is c.in_ok-push.ensures.items c.in_ok-entry_of.ensures.section
    (section_entry h c.args.layout.now e s c.requires.lawful c.requires.layout arranged c.in_ok-entry_of.ensures.section
    (ap (λ l. slice_get l e.number) (sym c.requires.catalogue.visible) ∙ c.in_ok-entry_of.ensures.number) c.in_ok-entry_of.ensures.heading)
    c.sections.invariant
