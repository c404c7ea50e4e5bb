use Rattle.std.proofs.Common.{List, [], ap, arith, subst, sym, take, ◌+◌, ◌++◌, ◌∙◌, ◌∷◌, ◌≡◌, ℕ}
use Rattle.std.specs.Prelude.{flat_map}
use Rattle.std.proofs.lemmas.List.{append-nil}
use Rattle.std.proofs.lemmas.List.Concat.{flat_map-append}
use Rattle.fugue_ids.specs.Identifiers.{Identifier}
use Rattle.catalogue_notes.specs.Outlining.{entry_sections}
use Rattle.catalogue_notes.specs.declared.entry.Entry.{Entry}
use Rattle.passage_remarks.specs.Finding.{AreFoundAt, section_places}
use Rattle.passage_remarks.proofs.FindingLemmas.{found_both}
use Rattle.passage_remarks.proofs.PlaceLemmas.{section_more}
use Rattle.passage_remarks.proofs.finding.find_in_sections.Goals as goal

pub sections-preserved : goal.sections-preserved
sections-preserved c =
    let h = c.args.replica.now.held.history in
    let passage = c.args.passage.now in
    let all : List Entry = c.args.sections.now in
    let i : ℕ = c.sections.section-index in
    let s : Identifier = c.section-item.result.section in
    let f : Identifier → List (Identifier × ℕ) = section_places h passage in
    let passed : List (Identifier × ℕ) = flat_map f (take i (entry_sections all)) in
    let more : flat_map f (take (i + 1) (entry_sections all)) ≡ passed ++ f s =
    ap (flat_map f) (section_more all i c.section-item.result (omega (arith, c.sections-test.true)) c.section-item.is)
    ∙ flat_map-append f (take i (entry_sections all)) (s ∷ [])
    ∙ ap (λ l. passed ++ l) (append-nil (f s)) in
    subst (λ l. AreFoundAt h passage l c.and-found.result) (sym more)
    (subst (AreFoundAt h passage (passed ++ f s)) (sym c.and-found.ensures)
    (found_both h passage passed (f s) c.sections.found c.in_ok-find_in_section.field-0 c.sections.invariant c.in_ok-find_in_section.ensures))
