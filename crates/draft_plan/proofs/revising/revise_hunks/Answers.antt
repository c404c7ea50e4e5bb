use Rattle.draft_plan.specs.declared.fault.ReviseFault.TheVariants as revise_fault
use Rattle.draft_plan.specs.Limits.{hunks_cost}
use Rattle.draft_plan.proofs.FillCostLemmas.{hunks_join as costs_more, hunks_stop as costs_stop}
use Rattle.draft_plan.proofs.LimitLemmas.{costs_none}
use Rattle.std.proofs.Common.{arith, drop, length, ◌+◌, ◌-◌}
use Rattle.std.proofs.lemmas.List.{drop_all}
use Rattle.std.proofs.lemmas.Result.{err_from_is_err_and}
use Rattle.draft_plan.proofs.ReviseLemmas.{hunks_few, hunks_more, hunks_none, hunks_stop, next_news, next_within}
use Rattle.draft_plan.proofs.revising.revise_hunks.Goals as goal

pub hunks-init : goal.hunks-init
hunks-init c =
    let hs = c.args.hunks.now in
    record {
      within = omega arith;
      settled = c.requires.settled;
      sound = c.requires.sound;
      made = hunks_none c.args.replica.now c.args.section (length hs) hs c.args.new.now c.requires.hunks (drop_all (length hs) hs (omega arith));
      costs = costs_none c.args.replica.now (hunks_cost (drop (length hs) hs));
    }

pub revise_hunk-requires-clause-old : goal.revise_hunk-requires-clause-old
revise_hunk-requires-clause-old c =
    next_within c.args.replica.now c.hunks.replica c.args.section c.hunks.left c.hunks.made c.args.hunks.now c.args.new.now c.requires.hunks c.hunks.invariant.made
    c.hunks-test.true
    c.hunks.invariant.within

pub revise_hunk-requires-clause-new : goal.revise_hunk-requires-clause-new
revise_hunk-requires-clause-new c =
    next_news c.args.replica.now c.hunks.replica c.args.section c.hunks.left c.hunks.made c.args.hunks.now c.args.new.now c.requires.hunks c.hunks.invariant.made c.hunks-test.true
    c.hunks.invariant.within

pub returns-in_err-made-clause-stops : goal.returns-in_err-made-clause-stops
returns-in_err-made-clause-stops c =
    let p = err_from_is_err_and c.from_residual.result c.from_residual.ensures.1 in
    rw (p.1, p.2)
    (hunks_stop c.args.replica.now c.hunks.replica c.args.section c.hunks.left c.hunks.made c.args.hunks.now c.args.new.now c.requires.hunks c.hunks.invariant.made
    c.hunks-test.true
    c.hunks.invariant.within c.revise_hunk.new.replica c.in_err-made.field-0.0 c.in_err-made.ensures.stops)

pub overflow_add-made : goal.overflow_add-made
overflow_add-made c =
    let more = hunks_more c.args.replica.now c.hunks.replica c.args.section c.hunks.left c.hunks.made c.args.hunks.now c.args.new.now c.requires.hunks c.hunks.invariant.made
    c.hunks-test.true
    c.hunks.invariant.within c.revise_hunk.new.replica c.in_ok-made.field-0 c.requires.sound.lawful c.in_ok-made.ensures.made in
    omega (
      arith,
      hunks_few c.args.replica.now c.revise_hunk.new.replica c.args.section (c.hunks.made + c.in_ok-made.field-0)
          (drop (c.hunks.left - 1) c.args.hunks.now) c.args.new.now more c.in_ok-made.ensures.sound,
    )

pub hunks-preserved : goal.hunks-preserved
hunks-preserved c = record {
  within = omega arith;
  costs = costs_more c.args.replica.now c.hunks.replica c.args.hunks.now c.hunks.left c.hunks.made c.hunks-test.true c.hunks.invariant.within c.hunks.invariant.costs
      c.revise_hunk.new.replica c.in_ok-made.field-0 c.in_ok-made.ensures.costs;
  settled = c.in_ok-made.ensures.settled;
  sound = c.in_ok-made.ensures.sound;
  made = hunks_more c.args.replica.now c.hunks.replica c.args.section c.hunks.left c.hunks.made c.args.hunks.now c.args.new.now c.requires.hunks c.hunks.invariant.made
      c.hunks-test.true
      c.hunks.invariant.within c.revise_hunk.new.replica c.in_ok-made.field-0 c.requires.sound.lawful c.in_ok-made.ensures.made;
}

pub returns-in_err-made-clause-costs : goal.returns-in_err-made-clause-costs
returns-in_err-made-clause-costs c =
    let p = err_from_is_err_and c.from_residual.result c.from_residual.ensures.1 in
    rw (p.1, p.2)
    (costs_stop c.args.replica.now c.hunks.replica c.args.hunks.now c.hunks.left c.hunks.made c.hunks-test.true c.hunks.invariant.within c.hunks.invariant.costs
    (revise_fault.Edit c.in_err-made.field-0.0) c.in_err-made.ensures.costs)
