use Rattle.std.proofs.Common.{arith, sym, ◌∙◌, false}
use Rattle.replica_core.proofs.PositionLemmas.{none_before, part_fails, part_passes, part_within}
use Rattle.replica_core.proofs.due.first_after.Goals as goal

pub returns-in-Some : goal.returns-in-Some
returns-in-Some c =
    part_passes (λ mark. mark) c.args.marks.now.items c.stretch-stretch.result.now c.stretches.passed false c.stretches.invariant.within c.stretches.invariant.front
    c.stretch-stretch.ensures.items
    c.in-Some.position (sym c.first_set.ensures ∙ c.in-Some.is)

pub stretches-preserved : goal.stretches-preserved
stretches-preserved c = record {
  within = part_within (λ mark. mark) c.args.marks.now.items c.stretch-stretch.result.now c.stretches.passed false c.stretches.invariant.within c.stretches.invariant.front
      c.stretch-stretch.ensures.items;
  front = part_fails (λ mark. mark) c.args.marks.now.items c.stretch-stretch.result.now c.stretches.passed false c.stretches.invariant.within c.stretches.invariant.front
      c.stretch-stretch.ensures.items (sym c.first_set.ensures ∙ c.in_default.is);
}

pub returns : goal.returns
returns c = none_before (λ mark. mark) c.args.marks.now.items c.stretches.passed false (omega (arith, c.stretches-test.false, c.len.ensures)) c.stretches.invariant.front
