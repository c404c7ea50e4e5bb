use Rattle.section_plan.specs.Completing.{HasKeysOfFree}
use Rattle.section_plan.proofs.completing.keys_of_free.Given as goal

abbrev pub invariant-sections : goal.invariant-sections
invariant-sections l = HasKeysOfFree l.pairs l.sections l.key l.place l.keys
