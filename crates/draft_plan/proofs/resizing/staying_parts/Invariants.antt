use Rattle.std.proofs.Common.{length, ◌≡◌}
use Rattle.draft_plan.proofs.resizing.staying_parts.Given as goal

abbrev pub invariant-parts : goal.invariant-parts
invariant-parts l = length l.places.items ≡ l.part
