use Rattle.std.proofs.Common.{ap, subst, ◌∙◌}
use Rattle.origin_model.specs.sides.Keys.{keyed_order}
use Rattle.origin_model.specs.sides.Slot.{IsBeside, at_gap}
use Rattle.run_store.specs.Cells.{cell_ids}
use Rattle.section_list.specs.SectionList.{Listing}
use Rattle.run_store.proofs.KeyLemmas.{keyed-ids}
use Rattle.section_list.proofs.KeptLemmas.{keyed_kept}
use Rattle.section_list.proofs.place.SectionList.gap_of.Goals as goal

pub find_gap-requires-clause-list : goal.find_gap-requires-clause-list
find_gap-requires-clause-list c =
    keyed_kept c.self.inside.ages.nodes c.self.inside.store.cells c.self.invariant ∙ ap (λ (s : Listing). keyed_order s.nodes) c.self.view_is

pub returns-clause-place : goal.returns-clause-place
returns-clause-place c =
    let ids = keyed-ids c.self.inside.store.cells ∙ ap (λ (s : Listing). cell_ids s.cells) c.self.view_is in
    c.find_gap.ensures.place ∙ ap (at_gap c.find_gap.result c.args.node.now.id) ids

pub returns-clause-beside : goal.returns-clause-beside
returns-clause-beside c =
    let ids = keyed-ids c.self.inside.store.cells ∙ ap (λ (s : Listing). cell_ids s.cells) c.self.view_is in
    subst (IsBeside c.find_gap.result) ids c.find_gap.ensures.beside
