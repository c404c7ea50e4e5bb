use Rattle.std.proofs.Common.{List, ap, arith, ◌∙◌}
use Rattle.std.specs.Prelude.{map}
use Rattle.std.proofs.lemmas.List.{length-map, take_all}
use Rattle.fugue_ids.specs.Identifiers.{Identifier}
use Rattle.catalogue_notes.specs.Outlining.{entry_sections}
use Rattle.catalogue_notes.specs.declared.entry.Entry.{Entry}
use Rattle.draft_plan.specs.Plain.{arranged_part}
use Rattle.draft_plan.proofs.OutlineLemmas.{entry_at}
use Rattle.draft_plan.proofs.ResizingLemmas.{entry_section}
use Rattle.draft_plan.proofs.ShownLemmas.{shown_more}
use Rattle.draft_plan.proofs.revision.shown_of.Goals as goal

pub shown_at-requires : goal.shown_at-requires
shown_at-requires c = (entry_at c.args.replica.now.held.history c.args.entries.now c.entries.entry-index c.entry-item.result c.requires (omega arith) c.entry-item.is).entry

pub entries-preserved : goal.entries-preserved
entries-preserved c =
    let at = entry_section c.args.entries.now c.entries.entry-index c.entry-item.result (omega arith) c.entry-item.is in
    rw c.in_ok-push.ensures.items
    (shown_more c.args.replica.now.held.history
    (entry_sections c.args.entries.now) c.entries.shown.items c.entries.entry-index c.entry-item.result.section c.in_ok-shown_at.field-0 at c.in_ok-shown_at.ensures
    c.entries.invariant)

pub returns : goal.returns
returns c =
    let h = c.args.replica.now.held.history in
    let ys : List Identifier = entry_sections c.args.entries.now in
    let long = length-map c.args.entries.now (λ (e : Entry). e.section) in
    c.entries.invariant ∙ (ap (map (arranged_part h)) (take_all c.entries.entry-index ys (omega (arith, long))) ∙ ap (map (arranged_part h)) c.requires.listed)
