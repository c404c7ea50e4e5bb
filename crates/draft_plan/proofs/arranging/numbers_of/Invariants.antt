use Rattle.std.proofs.Common.{take}
use Rattle.catalogue_notes.specs.Outlining.{entry_sections}
use Rattle.draft_plan.specs.Arranging.{IsOrderOf}
use Rattle.draft_plan.proofs.arranging.numbers_of.Given as goal

abbrev pub invariant-entries : goal.invariant-entries
invariant-entries l = IsOrderOf l.sections (take l.entry-index (entry_sections l.entries)) l.order.items
