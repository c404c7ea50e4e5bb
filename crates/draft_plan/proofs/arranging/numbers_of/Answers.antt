use Rattle.std.proofs.Common.{List, arith, subst}
use Rattle.std.proofs.lemmas.List.{length-map, take_all}
use Rattle.fugue_ids.specs.Identifiers.{Identifier}
use Rattle.origin_model.proofs.edits.SplitLemmas.{get_in}
use Rattle.catalogue_notes.specs.Outlining.{entry_sections}
use Rattle.catalogue_notes.specs.declared.entry.Entry.{Entry}
use Rattle.draft_plan.specs.Arranging.{IsOrderOf}
use Rattle.draft_plan.proofs.ArrangingLemmas.{order_more}
use Rattle.draft_plan.proofs.ResizingLemmas.{entry_section}
use Rattle.draft_plan.proofs.arranging.numbers_of.Goals as goal

pub rank_of-requires : goal.rank_of-requires
rank_of-requires c =
    let at = entry_section c.args.entries.now c.entries.entry-index c.entry-item.result (omega arith) c.entry-item.is in
    c.requires c.entry-item.result.section (get_in (entry_sections c.args.entries.now) c.entries.entry-index c.entry-item.result.section at)

pub entries-preserved : goal.entries-preserved
entries-preserved c =
    let at = entry_section c.args.entries.now c.entries.entry-index c.entry-item.result (omega arith) c.entry-item.is in
    rw c.in_ok-push.ensures.items
    (order_more c.args.sections.now (entry_sections c.args.entries.now) c.entries.order.items c.entries.entry-index c.rank_of.result c.entry-item.result.section
    c.entries.invariant at c.rank_of.ensures)

pub returns : goal.returns
returns c =
    let ys : List Identifier = entry_sections c.args.entries.now in
    let long = length-map c.args.entries.now (λ (e : Entry). e.section) in
    subst (λ xs. IsOrderOf c.args.sections.now xs c.entries.order.items) (take_all c.entries.entry-index ys (omega (arith, long))) c.entries.invariant
