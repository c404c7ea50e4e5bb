use Rattle.std.proofs.Common.{arith, subst, sym}
use Rattle.std.specs.Prelude.{IsSome}
use Rattle.section_plan.specs.Completing.{found_for}
use Rattle.std.proofs.lemmas.Grind.{common_steps}
use Rattle.section_plan.proofs.completing.complete_part.Goals as goal
use Rattle.section_plan.proofs.completing.complete_part.Goals.{then-is_some-via-then-is_some, then-is_some-via-else-is_some+then-not-has_key}

pub returns-then-is_some-clause-done : goal.returns-then-is_some-clause-done
returns-then-is_some-clause-done c = λ none keyed i free.
    elim c.then-is_some.branch [
      | then-is_some-via-then-is_some w ↦ grind (arith, common_steps)
      | then-is_some-via-else-is_some+then-not-has_key w ↦ grind (arith, common_steps)
    ]

pub returns-then-not-is_known-clause-done : goal.returns-then-not-is_known-clause-done
returns-then-not-is_known-clause-done c = λ none keyed i free.
    let known = c.requires.keys i _ free.within free in
    let told = c.is_known.ensures.1 (subst (λ k. IsSome (found_for c.args.keys.now k)) (sym c.key_of-wanted.ensures) known) in cc
