use Rattle.std.proofs.Common.{◌∙◌, ◌++◌, ◌-◌, ap, arith, drop, length, subst, sym}
use Rattle.op_runs.specs.Parts.{ops_of}
use Rattle.op_runs.specs.Slices.{AreSliced}
use Rattle.op_runs.proofs.SliceLemmas.{first_short, first_some, first_sound, parted, skip_inside, sliced_rest}
use Rattle.op_runs.proofs.slice.OpSlice.next_stretch.Goals as goal

pub stretch_of-stretch-requires-clause-sound : goal.stretch_of-stretch-requires-clause-sound
stretch_of-stretch-requires-clause-sound c =
    first_sound c.self.inside.letters.now c.self.inside.others.now c.self.inside.parts.now c.self.inside.skip c.self.inside.plain.now c.self.inside.count c.self.invariant
    c.in-Some.first.now c.in-Some.rest.now c.in-Some.ensures.cases.0

pub stretch_of-stretch-requires-clause-inside : goal.stretch_of-stretch-requires-clause-inside
stretch_of-stretch-requires-clause-inside c =
    skip_inside c.self.inside.letters.now c.self.inside.others.now c.self.inside.parts.now c.self.inside.skip c.self.inside.plain.now c.self.inside.count c.self.invariant
    c.in-Some.first.now c.in-Some.rest.now c.in-Some.ensures.cases.0

pub overflow_sub-self-in-Some : goal.overflow_sub-self-in-Some
overflow_sub-self-in-Some c =
    omega (
      arith,
      c.len.ensures.is,
      first_short c.self.inside.letters.now c.self.inside.others.now c.self.inside.parts.now c.self.inside.skip c.self.inside.plain.now
          c.self.inside.count c.self.invariant c.in-Some.first.now c.in-Some.rest.now c.in-Some.ensures.cases.0,
    )

pub invariant_of-self : goal.invariant_of-self
invariant_of-self c =
    subst (λ n. AreSliced c.self.inside.letters.now c.self.inside.others.now c.in-Some.rest.now 0 c.self.inside.plain.now (c.self.inside.count - (n - c.self.inside.skip)))
    (sym c.len.ensures.is)
    (sliced_rest c.self.inside.letters.now c.self.inside.others.now c.self.inside.parts.now c.self.inside.skip c.self.inside.plain.now c.self.inside.count c.self.invariant
    c.in-Some.first.now c.in-Some.rest.now c.in-Some.ensures.cases.0)

pub returns-in-Some-clause-taken : goal.returns-in-Some-clause-taken
returns-in-Some-clause-taken c =
    sym c.self.view_is
    ∙ parted c.self.inside.letters.now c.self.inside.others.now c.self.inside.parts.now c.self.inside.skip c.self.inside.plain.now c.self.inside.count c.self.invariant
    c.in-Some.first.now c.in-Some.rest.now c.in-Some.ensures.cases.0
    ∙ ap (λ z. z ++ (drop 0 (ops_of c.self.inside.letters.now c.self.inside.others.now c.in-Some.rest.now) ++ c.self.inside.plain.now)) (sym c.stretch_of-stretch.ensures.ops)

pub returns-in-Some-clause-some : goal.returns-in-Some-clause-some
returns-in-Some-clause-some c =
    omega (
      arith,
      ap length c.stretch_of-stretch.ensures.ops,
      first_some c.self.inside.letters.now c.self.inside.others.now c.self.inside.parts.now c.self.inside.skip c.self.inside.plain.now c.self.inside.count c.self.invariant
          c.in-Some.first.now c.in-Some.rest.now c.in-Some.ensures.cases.0,
    )

pub returns-clause-counters : goal.returns-clause-counters
returns-clause-counters c = tt
