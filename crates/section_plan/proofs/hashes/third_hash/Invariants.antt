use Rattle.std.proofs.Common.{length, take, ◌/◌, ◌≡◌}
use Rattle.section_plan.specs.Hashes.{hash_of_text}
use Rattle.section_plan.proofs.hashes.third_hash.Given as goal

abbrev pub invariant-scalars : goal.invariant-scalars
invariant-scalars l = l.hash ≡ hash_of_text (take l.scalar-index (take (length l.list / 3) l.list))
