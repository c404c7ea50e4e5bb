use Rattle.std.proofs.Common.{arith, length, sym, ◌+◌, ◌≤◌, ◌∙◌}
use Rattle.draft_plan.proofs.PartLemmas.{bad_found, bad_nowhere}
use Rattle.draft_plan.proofs.reading.bad_line.Goals as goal

pub returns-then-is_bad : goal.returns-then-is_bad
returns-then-is_bad c =
    bad_found c.args.draft.now c.lines.rest.now c.split_line.result.0.now c.split_line.result.1.now (c.lines.before + 1) c.lines.invariant.same c.split_line.ensures
    (sym c.is_bad.ensures ∙ c.if-is_bad.true)

pub returns : goal.returns
returns c =
    let none : length c.lines.rest.now ≤ 0 = grind arith in
    bad_nowhere c.args.draft.now c.lines.rest.now (c.lines.before + 1) c.lines.invariant.same none
