use Rattle.section_plan.specs.Matching.{KeepsPairs}
use Rattle.section_plan.proofs.sharing.pair_by_words.Given as goal

abbrev pub invariant-candidates : goal.invariant-candidates
invariant-candidates l = KeepsPairs l.fn.pairs l.pairs
