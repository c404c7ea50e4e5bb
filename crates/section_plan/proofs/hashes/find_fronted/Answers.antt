use Rattle.std.proofs.Common.{arith, length, subst, sym, ◌+◌, ◌<◌, ◌≡◌}
use Rattle.std.specs.Prelude.{IfNone, None}
use Rattle.std.proofs.lemmas.List.{get_or_read}
use Rattle.section_plan.specs.Hashes.{NoneFronted, earlier}
use Rattle.section_plan.specs.Matching.{part_of}
use Rattle.section_plan.proofs.HashLemmas.{earlier_is, fronted_next, hash_next}
use Rattle.section_plan.proofs.hashes.find_fronted.Goals as goal

pub scalars-preserved : goal.scalars-preserved
scalars-preserved c =
    let p = c.args.pairs.now in
    let xs = c.args.list.now in
    let i = c.scalars.scalar-index in
    let was = c.scalars.invariant in
    record {
      hash = hash_next xs i c.scalars.hash c.scalar-item.result c.next_hash-hash.result c.scalars-test.true
          (sym (get_or_read xs i c.scalar-item.result c.scalars-test.true c.scalar-item.is 0)) was.hash
          c.next_hash-hash.ensures;
      within = rw c.earlier-found.ensures
          (earlier_is (λ place. place < length p.of_section.items) c.scalars.found c.find_hashed-hashed.result was.within c.find_hashed-hashed.ensures.within);
      free = rw c.earlier-found.ensures (earlier_is (λ place. part_of p place ≡ None) c.scalars.found c.find_hashed-hashed.result was.free c.find_hashed-hashed.ensures.free);
      none = rw c.earlier-found.ensures
          (fronted_next p c.args.sections.now c.args.hashes.now.hashes.items xs c.args.text.now i c.scalars.hash c.scalars.found c.find_hashed-hashed.result was.none was.hash
          c.find_hashed-hashed.ensures.none);
    }

pub returns-clause-within : goal.returns-clause-within
returns-clause-within c =
    rw c.earlier.ensures
    (earlier_is (λ place. place < length c.args.pairs.now.of_section.items) c.scalars.found c.find_hashed-last.result c.scalars.invariant.within c.find_hashed-last.ensures.within)

pub returns-clause-free : goal.returns-clause-free
returns-clause-free c =
    rw c.earlier.ensures (earlier_is (λ place. part_of c.args.pairs.now place ≡ None) c.scalars.found c.find_hashed-last.result c.scalars.invariant.free
    c.find_hashed-last.ensures.free)

pub returns-clause-none : goal.returns-clause-none
returns-clause-none c =
    let p = c.args.pairs.now in
    let xs = c.args.list.now in
    let ms = c.args.hashes.now.hashes.items in
    let i = c.scalars.scalar-index in
    let all : i ≡ length xs = omega arith in
    rw c.earlier.ensures
    (subst (λ n. IfNone (earlier c.scalars.found c.find_hashed-last.result) (NoneFronted p c.args.sections.now ms xs (n + 1) c.args.text.now)) all
    (fronted_next p c.args.sections.now ms xs c.args.text.now i c.scalars.hash c.scalars.found c.find_hashed-last.result c.scalars.invariant.none c.scalars.invariant.hash
    c.find_hashed-last.ensures.none))
