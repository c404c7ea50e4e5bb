use Rattle.std.proofs.Common.{◌≡◌, ◌-◌, ◌∙◌, arith, subst, sym}
use Rattle.op_runs.specs.Finding.{op_of}
use Rattle.op_runs.specs.Parts.{part_len}
use Rattle.op_runs.specs.Slices.{AreSliced}
use Rattle.op_runs.proofs.SliceLemmas.{op_alone, op_first, skip_inside, sliced_rest}
use Rattle.op_runs.proofs.slice.OpSlice.next_op.Goals as goal

pub returns-then-len-self-gt1-clause-taken : goal.returns-then-len-self-gt1-clause-taken
returns-then-len-self-gt1-clause-taken c =
    sym c.self.view_is
    ∙ op_first c.self.inside.letters.now c.self.inside.others.now c.self.inside.parts.now c.self.inside.skip c.self.inside.plain.now c.self.inside.count c.self.invariant
    c.in-Some.first.now c.in-Some.rest.now c.in-Some.ensures.cases.0
    (op_of c.op_in-op.result) c.op_in-op.ensures

pub invariant_of-self-in-Some : goal.invariant_of-self-in-Some
invariant_of-self-in-Some c =
    let less : part_len c.in-Some.first.now - c.self.inside.skip ≡ 1 =
    omega (
      arith,
      c.len.ensures.is,
      c.if-len-self-gt1.false,
      skip_inside c.self.inside.letters.now c.self.inside.others.now c.self.inside.parts.now c.self.inside.skip c.self.inside.plain.now c.self.inside.count c.self.invariant
          c.in-Some.first.now c.in-Some.rest.now c.in-Some.ensures.cases.0,
    ) in
    subst (λ n. AreSliced c.self.inside.letters.now c.self.inside.others.now c.in-Some.rest.now 0 c.self.inside.plain.now (c.self.inside.count - n)) less
    (sliced_rest c.self.inside.letters.now c.self.inside.others.now c.self.inside.parts.now c.self.inside.skip c.self.inside.plain.now c.self.inside.count c.self.invariant
    c.in-Some.first.now c.in-Some.rest.now c.in-Some.ensures.cases.0)

pub returns-in-Some-clause-taken : goal.returns-in-Some-clause-taken
returns-in-Some-clause-taken c =
    let less : part_len c.in-Some.first.now - c.self.inside.skip ≡ 1 =
    omega (
      arith,
      c.len.ensures.is,
      c.if-len-self-gt1.false,
      skip_inside c.self.inside.letters.now c.self.inside.others.now c.self.inside.parts.now c.self.inside.skip c.self.inside.plain.now c.self.inside.count c.self.invariant
          c.in-Some.first.now c.in-Some.rest.now c.in-Some.ensures.cases.0,
    ) in
    sym c.self.view_is
    ∙ op_alone c.self.inside.letters.now c.self.inside.others.now c.self.inside.parts.now c.self.inside.skip c.self.inside.plain.now c.self.inside.count c.self.invariant
    c.in-Some.first.now c.in-Some.rest.now c.in-Some.ensures.cases.0
    (op_of c.op_in-op.result) c.op_in-op.ensures less
