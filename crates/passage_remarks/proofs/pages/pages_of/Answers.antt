use Rattle.std.proofs.Common.{List, [], ap, arith, map, sym, take, ◌++◌, ◌∙◌, ◌∷◌, ℕ}
use Rattle.std.specs.Str.{encode_utf8_all}
use Rattle.std.proofs.lemmas.List.{length-map, map-append, take_all}
use Rattle.fugue_ids.specs.Identifiers.{Identifier}
use Rattle.origin_model.specs.order.Printed.{text}
use Rattle.catalogue_notes.specs.Outlining.{entry_sections}
use Rattle.catalogue_notes.specs.declared.entry.Entry.{Entry}
use Rattle.passage_remarks.proofs.PlaceLemmas.{section_more}
use Rattle.passage_remarks.proofs.pages.pages_of.Goals as goal

pub sections-preserved : goal.sections-preserved
sections-preserved c =
    let h = c.args.replica.now.held.history in
    let all : List Entry = c.args.sections.now in
    let f : Identifier → List ℕ = λ s. encode_utf8_all (text h s) in
    c.in_ok-push.ensures.items
    ∙ (λ i. c.sections.invariant i ++ c.in_ok-page_of.ensures i ∷ [])
    ∙ sym (ap (map f) (section_more all c.sections.section-index c.section-item.result (omega (arith, c.sections-test.true)) c.section-item.is)
    ∙ map-append f (take c.sections.section-index (entry_sections all)) (c.section-item.result.section ∷ []))

pub returns : goal.returns
returns c =
    let h = c.args.replica.now.held.history in
    let all : List Entry = c.args.sections.now in
    c.sections.invariant
    ∙ ap (map (λ s. encode_utf8_all (text h s)))
    (take_all c.sections.section-index (entry_sections all) (omega (arith, length-map all (λ (z : Entry). z.section), c.sections-test.false)) ∙ c.requires.listed)
