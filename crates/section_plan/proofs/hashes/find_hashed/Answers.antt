use Rattle.std.proofs.Common.{arith, get_or, refl, subst, sym, true≢false, ◌∙◌, length, ◌+◌, ◌<◌}
use Rattle.std.specs.BTreeMap.{get}
use Rattle.std.specs.Ordering.{nat_cmp}
use Rattle.std.proofs.lemmas.Bool.{false_from_ne_true}
use Rattle.section_plan.specs.Likeness.{alike}
use Rattle.section_plan.specs.Hashes.{AreTried, IsFirst, turns_left}
use Rattle.section_plan.proofs.HashLemmas.{falls, tried_all, tried_more, tried_none}
use Rattle.section_plan.proofs.hashes.find_hashed.Goals as goal

pub hashed-init : goal.hashed-init
hashed-init c =
    let ms = c.args.hashes.now.hashes.items in
    subst (AreTried c.args.pairs.now c.args.sections.now ms c.args.hash c.args.text.now) (sym (c.copied-next.ensures ∙ c.get.ensures.value))
    (tried_none c.args.pairs.now c.args.sections.now ms c.args.hash c.args.text.now c.requires.long (get nat_cmp c.args.hashes.now.first c.args.hash)
    (c.requires.hashed.starts c.args.hash))

pub section_at-section-requires : goal.section_at-section-requires
section_at-section-requires c =
    let was = subst (AreTried c.args.pairs.now c.args.sections.now c.args.hashes.now.hashes.items c.args.hash c.args.text.now) c.in-Some.is c.hashed.invariant in
    omega (arith, (was.there c.in-Some.place refl).0, c.requires.long)

pub returns-then-is_candidate-clause-within : goal.returns-then-is_candidate-clause-within
returns-then-is_candidate-clause-within c = c.requires.within c.in-Some.place c.section_at-section.result.now c.section_at-section.ensures

pub next_of-next-requires : goal.next_of-next-requires
next_of-next-requires c =
    let was = subst (AreTried c.args.pairs.now c.args.sections.now c.args.hashes.now.hashes.items c.args.hash c.args.text.now) c.in-Some.is c.hashed.invariant in
    omega (arith, (was.there c.in-Some.place refl).0, c.requires.long, c.requires.hashed.long)

pub hashed-preserved : goal.hashed-preserved
hashed-preserved c =
    let ms = c.args.hashes.now.hashes.items in
    let k = c.in-Some.place in
    let u = c.section_at-section.result.now in
    let was = subst (AreTried c.args.pairs.now c.args.sections.now ms c.args.hash c.args.text.now) c.in-Some.is c.hashed.invariant in
    let first = subst (IsFirst ms (k + 1) (get_or ms k 0)) (sym c.next_of-next.ensures) (c.requires.hashed.chains k (omega arith) (was.there k refl).0) in
    tried_more c.args.pairs.now c.args.sections.now ms c.args.hash c.args.text.now c.requires.long k c.next_of-next.result u was first c.section_at-section.ensures
    (λ free. false_from_ne_true (alike u.list.items c.args.text.now) (λ t. true≢false (sym (c.is_candidate.ensures.1 (free, t)) ∙ c.if-is_candidate.false)))

pub hashed-smaller : goal.hashed-smaller
hashed-smaller c =
    let ms = c.args.hashes.now.hashes.items in
    let k = c.in-Some.place in
    let was = subst (AreTried c.args.pairs.now c.args.sections.now ms c.args.hash c.args.text.now) c.in-Some.is c.hashed.invariant in
    let first = subst (IsFirst ms (k + 1) (get_or ms k 0)) (sym c.next_of-next.ensures) (c.requires.hashed.chains k (omega arith) (was.there k refl).0) in
    subst (λ o. turns_left (length ms) c.next_of-next.result < turns_left (length ms) o) (sym c.in-Some.is)
    (falls ms k (get_or ms k 0) c.next_of-next.result (was.there k refl).0 first)

pub returns-clause-none : goal.returns-clause-none
returns-clause-none c =
    let ms = c.args.hashes.now.hashes.items in
    tried_all c.args.pairs.now c.args.sections.now ms c.args.hash c.args.text.now c.requires.long
    (subst (AreTried c.args.pairs.now c.args.sections.now ms c.args.hash c.args.text.now) c.in_default.is c.hashed.invariant)
