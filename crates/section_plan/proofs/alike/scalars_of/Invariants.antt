use Rattle.section_plan.specs.Alike.{HasSectionTexts}
use Rattle.section_plan.proofs.alike.scalars_of.Given as goal

abbrev pub invariant-sections : goal.invariant-sections
invariant-sections l = HasSectionTexts l.pairs l.sections l.place l.texts.items
