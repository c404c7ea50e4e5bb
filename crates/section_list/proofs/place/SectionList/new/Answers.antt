use Rattle.std.proofs.Common.{ap}
use Rattle.section_list.proofs.GrowthLemmas.{nothing_kept}
use Rattle.section_list.proofs.place.SectionList.new.Goals as goal

pub invariant_of-result : goal.invariant_of-result
invariant_of-result c = nothing_kept c.new.result.nodes c.new-2.result.cells c.new.ensures (ap (λ s. s.cells) c.new-2.ensures)

pub returns-clause-in_order : goal.returns-clause-in_order
returns-clause-in_order c = invariant_of-result c
