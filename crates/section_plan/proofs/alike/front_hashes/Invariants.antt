use Rattle.section_plan.specs.Hashes.{AreThirds, list_of}
use Rattle.section_plan.proofs.alike.front_hashes.Given as goal

abbrev pub invariant-texts : goal.invariant-texts
invariant-texts l = AreThirds list_of l.texts l.text-index l.hashes.items
