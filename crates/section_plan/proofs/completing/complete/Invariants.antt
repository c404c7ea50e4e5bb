use Rattle.section_plan.specs.Completing.{IsCompletedTo}
use Rattle.section_plan.proofs.completing.complete.Given as goal

abbrev pub invariant-parts : goal.invariant-parts
invariant-parts l = IsCompletedTo l.fn.pairs l.pairs l.sections l.parts l.key l.place
