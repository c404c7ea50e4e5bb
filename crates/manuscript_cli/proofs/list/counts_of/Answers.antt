use Rattle.std.proofs.Common.{List, [], ap, arith, get_or, length, sym, ◌++◌, ◌<◌, ◌∙◌, ◌∷◌, ◌≡◌}
use Rattle.std.proofs.lemmas.List.{get_or-map, length-map}
use Rattle.fugue_ids.specs.Identifiers.{Identifier}
use Rattle.catalogue_notes.specs.Outlining.{entry_sections}
use Rattle.catalogue_notes.specs.declared.entry.Entry.{Entry}
use Rattle.manuscript_cli.proofs.ListingLemmas.{counted_next}
use Rattle.manuscript_cli.proofs.list.counts_of.Goals as goal

pub entries-preserved : goal.entries-preserved
entries-preserved c =
    let h = c.args.replica.now.held.history in
    let es : List Entry = c.args.entries.now in
    let e : Entry = c.index-entries-at.result in
    let section : Entry → Identifier = λ (x : Entry). x.section in
    let below : c.entries.at < length es = omega (arith, c.entries-test.true) in
    let is : e ≡ get_or es c.entries.at e = c.index-entries-at.is in
    c.in_ok-push.ensures.items ∙ (λ i. c.entries.invariant i ++ record { at = c.entries.at; clusters = c.in_ok-clusters.ensures i } ∷ [])
    ∙ sym (counted_next h c.entries.at (entry_sections es) e.section (omega (arith, below, length-map es section))
    (ap section is ∙ sym (get_or-map section es c.entries.at e e.section below)))
