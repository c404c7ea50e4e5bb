use Rattle.std.specs.Prelude.{ℕ, ◌<◌, ◌≡◌, Some, slice_get}
use Rattle.draft_plan.proofs.arranging.place_of.Given as goal

abbrev pub invariant-sections : goal.invariant-sections
invariant-sections l = (a : ℕ) → a < l.place → slice_get l.sections a ≡ Some l.section → ⊥
