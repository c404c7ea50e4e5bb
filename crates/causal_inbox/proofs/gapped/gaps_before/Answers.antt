use Rattle.std.proofs.Common.{arith, ℕ, ◌+◌, ◌-◌, ◌/◌, ◌<◌, ◌≤◌, get_or, length}
use Rattle.causal_inbox.proofs.SpacedLemmas.{gap_after, is_passed, not_passed, passed_within}
use Rattle.causal_inbox.proofs.gapped.gaps_before.Goals as goal

pub halves-init : goal.halves-init
halves-init c = record {
  order = omega arith;
  within = omega arith;
  least = omega arith;
  most = passed_within c.args.gaps.now c.args.place;
}

pub overflow_sub-gaps : goal.overflow_sub-gaps
overflow_sub-gaps c =
    let middle : ℕ = c.halves.low + (c.halves.high - c.halves.low) / 2 in
    let in_list : middle < length c.args.gaps.now = omega (arith, c.halves-test.true, c.halves.invariant.within) in
    omega (arith, gap_after c.requires.from c.args.gaps.now c.requires.end middle c.requires.in_order in_list)

pub halves-preserved-then-gaps-middle : goal.halves-preserved-then-gaps-middle
halves-preserved-then-gaps-middle c =
    let middle : ℕ = c.halves.low + (c.halves.high - c.halves.low) / 2 in
    let in_list : middle < length c.args.gaps.now = omega (arith, c.halves-test.true, c.halves.invariant.within) in
    let behind : c.requires.from + middle ≤ get_or c.args.gaps.now middle 0 = gap_after c.requires.from c.args.gaps.now c.requires.end middle c.requires.in_order in_list in
    record {
      order = omega (arith, c.halves-test.true);
      within = c.halves.invariant.within;
      least = omega (
        arith,
        is_passed c.requires.from c.args.gaps.now c.requires.end c.args.place middle c.requires.in_order in_list
            (omega (arith, c.if-gaps-middle.true, behind)),
      );
      most = c.halves.invariant.most;
    }

pub halves-preserved : goal.halves-preserved
halves-preserved c =
    let middle : ℕ = c.halves.low + (c.halves.high - c.halves.low) / 2 in
    let in_list : middle < length c.args.gaps.now = omega (arith, c.halves-test.true, c.halves.invariant.within) in
    record {
      order = omega (arith, c.halves-test.true);
      within = omega (arith, in_list);
      least = c.halves.invariant.least;
      most = not_passed c.requires.from c.args.gaps.now c.requires.end c.args.place middle c.requires.in_order in_list (omega (arith, c.if-gaps-middle.false));
    }
