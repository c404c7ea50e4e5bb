use Rattle.std.specs.Prelude.{length}
use Rattle.section_plan.specs.Hashes.{AreTried, turns_left}
use Rattle.section_plan.proofs.hashes.find_hashed.Given as goal

abbrev pub invariant-hashed : goal.invariant-hashed
invariant-hashed l = AreTried l.pairs l.sections l.hashes.hashes.items l.fn.hash l.text l.next

abbrev pub decreases-hashed : goal.decreases-hashed
decreases-hashed l = turns_left (length l.hashes.hashes.items) l.next
