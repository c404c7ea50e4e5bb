use Rattle.std.specs.Ordering.{nat_cmp}
use Rattle.std.specs.BTreeMap.{get}
use Rattle.std.specs.Prelude.{◌≤◌, length}
use Rattle.section_plan.specs.Hashes.{AreHashed}
use Rattle.section_plan.proofs.hashes.HashIndex.of.Given as goal

abbrev pub invariant-hashes : goal.invariant-hashes
invariant-hashes l = record {
  within : l.place ≤ length l.hashes.items;
  hashed : AreHashed l.hashes.items l.place (get nat_cmp l.first) l.next.items;
}

abbrev pub decreases-hashes : goal.decreases-hashes
decreases-hashes l = l.place
