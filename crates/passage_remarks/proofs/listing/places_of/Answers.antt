use Rattle.std.proofs.Common.{List, [], ap, arith, length, sym, take, ◌+◌, ◌++◌, ◌<◌, ◌∙◌, ◌∷◌, ◌≡◌, inl, inr, ℕ}
use Rattle.std.specs.Prelude.{Some}
use Rattle.std.specs.List.{Contains}
use Rattle.std.specs.BTreeMap.{get}
use Rattle.std.proofs.lemmas.List.{length-map, length-take-le}
use Rattle.fugue_ids.specs.Identifiers.{Identifier, id_cmp}
use Rattle.fugue_ids.proofs.IdentifierLemmas.{cases_id, id_at-other}
use Rattle.catalogue_notes.specs.Outlining.{entry_sections}
use Rattle.catalogue_notes.specs.declared.entry.Entry.{Entry}
use Rattle.margin_notes.specs.Listing.{number_from}
use Rattle.passage_remarks.proofs.PlaceLemmas.{number_here, number_other, section_more, section_new}
use Rattle.passage_remarks.proofs.listing.places_of.Goals as goal

pub sections-preserved : goal.sections-preserved
sections-preserved c = λ s.
    let all : List Entry = c.args.sections.now in
    let i : ℕ = c.sections.at in
    let x : Identifier = c.index-sections-at.result.section in
    let below : i < length all = omega (arith, c.sections-test.true) in
    let front : List Identifier = take i (entry_sections all) in
    let more : take (i + 1) (entry_sections all) ≡ front ++ x ∷ [] = section_more all i c.index-sections-at.result below c.index-sections-at.is in
    let known : i < length (entry_sections all) = omega (arith, below, length-map all (λ (z : Entry). z.section)) in
    let fresh : Contains front x → ⊥ = section_new (entry_sections all) i x c.requires.apart more known in
    let long : length front + 1 ≡ i + 1 = omega (arith, length-take-le i (entry_sections all) (omega (arith, known))) in
    let u = c.in_ok-insert.ensures.updates in
    elim (cases_id s x) [
      | inl e ↦ ap (get id_cmp c.insert.new.self) e ∙ u.1 ∙ sym (number_here 1 front x fresh ∙ ap Some long) ∙ ap (λ l. number_from 1 l x) (sym more)
          ∙ ap (number_from 1 (take (i + 1) (entry_sections all))) (sym e)
      | inr n ↦ u.2 s (id_at-other x s n) ∙ c.sections.invariant s ∙ sym (number_other 1 front x s n) ∙ ap (λ l. number_from 1 l s) (sym more)
    ]
