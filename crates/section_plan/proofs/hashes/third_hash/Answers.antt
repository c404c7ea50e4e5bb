use Rattle.std.proofs.Common.{ap, length, sym, take, ◌/◌, ◌∙◌}
use Rattle.std.proofs.lemmas.List.{get_or_read, take_all}
use Rattle.section_plan.specs.Hashes.{hash_of_text}
use Rattle.section_plan.proofs.HashLemmas.{hash_next}
use Rattle.section_plan.proofs.hashes.third_hash.Goals as goal

pub scalars-preserved : goal.scalars-preserved
scalars-preserved c =
    let xs = take (length c.args.list.now / 3) c.args.list.now in
    hash_next xs c.scalars.scalar-index c.scalars.hash c.scalar-item.result c.next_hash-hash.result c.scalars-test.true
    (sym (get_or_read xs c.scalars.scalar-index c.scalar-item.result c.scalars-test.true c.scalar-item.is 0))
    c.scalars.invariant c.next_hash-hash.ensures

pub returns : goal.returns
returns c = c.scalars.invariant ∙ ap hash_of_text (take_all c.scalars.scalar-index (take (length c.args.list.now / 3) c.args.list.now) c.scalars-test.false)
