use Rattle.section_plan.specs.Hashes.{AreThirds, reversed_of}
use Rattle.section_plan.proofs.alike.end_hashes.Given as goal

abbrev pub invariant-texts : goal.invariant-texts
invariant-texts l = AreThirds reversed_of l.texts l.text-index l.hashes.items
