use Rattle.std.proofs.Common.{take, ◌≡◌}
use Rattle.std.specs.Prelude.{map}
use Rattle.catalogue_notes.specs.Outlining.{entry_sections}
use Rattle.draft_plan.specs.Matching.{shown_part}
use Rattle.draft_plan.specs.Plain.{arranged_part}
use Rattle.draft_plan.proofs.revision.shown_of.Given as goal

abbrev pub invariant-entries : goal.invariant-entries
invariant-entries l = map shown_part l.shown.items ≡ map (arranged_part l.replica.held.history) (take l.entry-index (entry_sections l.entries))
