use Rattle.section_plan.specs.Matching.{GainsPairs}
use Rattle.section_plan.proofs.pairing.pair_from.Given as goal

abbrev pub invariant-places : goal.invariant-places
invariant-places l = GainsPairs l.key l.sections l.parts l.fn.pairs l.pairs
