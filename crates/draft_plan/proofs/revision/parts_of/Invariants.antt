use Rattle.std.proofs.Common.{take, ◌≡◌}
use Rattle.std.specs.Prelude.{map}
use Rattle.draft_plan.specs.Matching.{shown_part}
use Rattle.draft_plan.specs.Readings.{seen_part}
use Rattle.draft_plan.proofs.revision.parts_of.Given as goal

abbrev pub invariant-shown : goal.invariant-shown
invariant-shown l = map seen_part l.parts.items ≡ map shown_part (take l.section-index l.shown)
