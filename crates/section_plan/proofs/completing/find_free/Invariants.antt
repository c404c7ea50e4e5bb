use Rattle.std.specs.Prelude.{ℕ, ◌<◌}
use Rattle.section_plan.specs.Completing.{IsFreeWith}
use Rattle.section_plan.proofs.completing.find_free.Given as goal

abbrev pub invariant-sections : goal.invariant-sections
invariant-sections l = (i : ℕ) → i < l.place → IsFreeWith l.pairs l.sections l.key l.wanted i → ⊥
