use Rattle.std.proofs.Common.{length, take, ◌<◌, ◌≡◌}
use Rattle.std.specs.Prelude.{IfNone, IfSome, None}
use Rattle.section_plan.specs.Hashes.{NoneFronted, hash_of_text}
use Rattle.section_plan.specs.Matching.{part_of}
use Rattle.section_plan.proofs.hashes.find_fronted.Given as goal

abbrev pub invariant-scalars : goal.invariant-scalars
invariant-scalars l = record {
  hash : l.hash ≡ hash_of_text (take l.scalar-index l.list);
  within : IfSome l.found (λ place. place < length l.pairs.of_section.items);
  free : IfSome l.found (λ place. part_of l.pairs place ≡ None);
  none : IfNone l.found (NoneFronted l.pairs l.sections l.hashes.hashes.items l.list l.scalar-index l.text);
}
