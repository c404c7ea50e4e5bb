use Rattle.std.proofs.Common.{take, ◌≡◌}
use Rattle.std.specs.Prelude.{map}
use Rattle.draft_plan.specs.Readings.{seen_part}
use Rattle.draft_plan.proofs.revision.are_same.Given as goal

abbrev pub invariant-sections : goal.invariant-sections
invariant-sections l = map seen_part (take l.place l.sections) ≡ map seen_part (take l.place l.parts)
