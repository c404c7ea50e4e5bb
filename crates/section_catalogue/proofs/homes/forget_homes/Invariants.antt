use Rattle.section_catalogue.proofs.HomeLemmas.{IsForgetting}
use Rattle.section_catalogue.proofs.homes.forget_homes.Given as goal

abbrev pub invariant-forgotten : goal.invariant-forgotten
invariant-forgotten l = IsForgetting l.fn.homes l.homes l.fn.first l.fn.count l.left

abbrev pub decreases-forgotten : goal.decreases-forgotten
decreases-forgotten l = l.left
