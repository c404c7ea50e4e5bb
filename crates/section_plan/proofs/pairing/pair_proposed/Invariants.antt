use Rattle.section_plan.specs.Matching.{GainsPairs}
use Rattle.section_plan.proofs.pairing.pair_proposed.Given as goal

abbrev pub invariant-proposals : goal.invariant-proposals
invariant-proposals l = GainsPairs l.key l.sections l.parts l.fn.pairs l.pairs
