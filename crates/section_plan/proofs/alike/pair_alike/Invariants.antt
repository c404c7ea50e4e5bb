use Rattle.section_plan.specs.Alike.{AreServed}
use Rattle.section_plan.proofs.alike.pair_alike.Given as goal

abbrev pub invariant-parts : goal.invariant-parts
invariant-parts l = AreServed l.fn.pairs l.pairs l.index.texts.items l.parts l.place
