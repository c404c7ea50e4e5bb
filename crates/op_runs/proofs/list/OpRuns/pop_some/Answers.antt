use Rattle.std.proofs.Common.{◌∙◌, ◌-◌, ap, arith, length, subst, take, List, ℕ}
use Rattle.op_runs.specs.Growing.{IsLastPart}
use Rattle.op_runs.specs.declared.part.Part.{Part}
use Rattle.op_runs.proofs.PopLemmas.{letters_there, others_there, popped_off, taken_most, taken_some}
use Rattle.op_runs.proofs.list.OpRuns.pop_some.Goals as goal

pub overflow_sub-letters : goal.overflow_sub-letters
overflow_sub-letters c =
    let is : IsLastPart c.self.inside.parts.items c.in-Some.last = subst (λ (ps : List Part). IsLastPart ps c.in-Some.last) c.deref.ensures.value c.in-Some.ensures.some in
    omega (
      arith,
      c.letters_of.ensures,
      ap length c.as_slice.ensures.value,
      letters_there c.self.inside.letters.items c.self.inside.others.items c.self.inside.parts.items c.self.inside.firsts.items c.self.inside.count c.in-Some.last c.self.invariant
          is
          c.take_off-count.new.parts.items c.take_off-count.new.firsts.items c.args.most c.take_off-count.result c.take_off-count.ensures,
    )

pub overflow_sub-others : goal.overflow_sub-others
overflow_sub-others c =
    let is : IsLastPart c.self.inside.parts.items c.in-Some.last = subst (λ (ps : List Part). IsLastPart ps c.in-Some.last) c.deref.ensures.value c.in-Some.ensures.some in
    omega (
      arith,
      c.others_in.ensures,
      ap length c.as_slice-2.ensures.value,
      others_there c.self.inside.letters.items c.self.inside.others.items c.self.inside.parts.items c.self.inside.firsts.items c.self.inside.count c.in-Some.last c.self.invariant
          is,
    )

pub invariant_of-self : goal.invariant_of-self
invariant_of-self c =
    (popped_off c.self.inside.letters.items c.truncate.new.self.items c.self.inside.others.items c.truncate-2.new.self.items c.self.inside.parts.items
    c.take_off-count.new.parts.items c.self.inside.firsts.items c.take_off-count.new.firsts.items c.self.inside.count c.args.most c.take_off-count.result c.in-Some.last
    c.self.invariant c.requires.some c.take_off-count.ensures
    (c.truncate.ensures.items ∙ (λ i. take (length (c.as_slice.ensures.value i) - c.letters_of.ensures i) c.self.inside.letters.items))
    (c.truncate-2.ensures.items ∙ (λ i. take (length (c.as_slice-2.ensures.value i) - c.others_in.ensures i) c.self.inside.others.items))).are

pub returns-clause-some : goal.returns-clause-some
returns-clause-some c =
    let is : IsLastPart c.self.inside.parts.items c.in-Some.last = subst (λ (ps : List Part). IsLastPart ps c.in-Some.last) c.deref.ensures.value c.in-Some.ensures.some in
    taken_some c.self.inside.letters.items c.self.inside.others.items c.self.inside.parts.items c.self.inside.firsts.items c.self.inside.count c.in-Some.last c.self.invariant is
    c.take_off-count.new.parts.items c.take_off-count.new.firsts.items c.args.most c.take_off-count.result c.requires.some c.take_off-count.ensures

pub returns-clause-within : goal.returns-clause-within
returns-clause-within c =
    let is : IsLastPart c.self.inside.parts.items c.in-Some.last = subst (λ (ps : List Part). IsLastPart ps c.in-Some.last) c.deref.ensures.value c.in-Some.ensures.some in
    taken_most c.self.inside.letters.items c.self.inside.others.items c.self.inside.parts.items c.self.inside.firsts.items c.self.inside.count c.in-Some.last c.self.invariant is
    c.take_off-count.new.parts.items c.take_off-count.new.firsts.items c.args.most c.take_off-count.result c.take_off-count.ensures

pub returns-clause-others : goal.returns-clause-others
returns-clause-others c =
    let k : ℕ = c.take_off-count.result in
    (popped_off c.self.inside.letters.items c.truncate.new.self.items c.self.inside.others.items c.truncate-2.new.self.items c.self.inside.parts.items
    c.take_off-count.new.parts.items c.self.inside.firsts.items c.take_off-count.new.firsts.items c.self.inside.count c.args.most c.take_off-count.result c.in-Some.last
    c.self.invariant c.requires.some c.take_off-count.ensures
    (c.truncate.ensures.items ∙ (λ i. take (length (c.as_slice.ensures.value i) - c.letters_of.ensures i) c.self.inside.letters.items))
    (c.truncate-2.ensures.items ∙ (λ i. take (length (c.as_slice-2.ensures.value i) - c.others_in.ensures i) c.self.inside.others.items))).ops
    ∙ (λ i. take (length (c.self.view_is i) - k) (c.self.view_is i))
