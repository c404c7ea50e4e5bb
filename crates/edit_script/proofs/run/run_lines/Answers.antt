use Rattle.std.proofs.Common.{ap, sym, subst, length, arith}
use Rattle.edit_script.specs.Scripts.{StopsAtLine}
use Rattle.edit_script.proofs.RunLemmas.{less_at, stops, walk_at, walk_at_end, walk_grows, walk_next, walk_over, walk_stops}
use Rattle.edit_script.proofs.run.run_lines.Goals as goal

pub lines-smaller : goal.lines-smaller
lines-smaller c = less_at _ _ _ _ c.in-Some.is c.split_line.ensures

pub lines-preserved : goal.lines-preserved
lines-preserved c = record {
  walk = walk_next _ _ _ _ _ _ _ _ (walk_at _ _ _ _ _ _ c.lines.invariant.walk c.in-Some.is) c.split_line.ensures c.in-Ok.ensures.runs;
  settled = c.run_line.ensures.settled;
  sections = c.in-Ok.ensures.sections;
}

pub returns-in-Err-clause-err : goal.returns-in-Err-clause-err
returns-in-Err-clause-err c =
    let reached = walk_stops _ _ _ _ _ _ _ (walk_at _ _ _ _ _ _ c.lines.invariant.walk c.in-Some.is) c.split_line.ensures in
    subst (StopsAtLine _ _ _) (sym c.at_line.ensures) (stops _ _ _ _ _ _ _ reached c.in-Err.ensures.fails)

pub overflow_sub-result : goal.overflow_sub-result
overflow_sub-result c =
    omega (arith, walk_grows _ _ _ _ _ c.lines.invariant.walk, c.len.ensures, c.len-before.ensures, ap length c.accepted-2.ensures.accepted, ap length c.accepted.ensures.accepted)

pub returns-clause-ok : goal.returns-clause-ok
returns-clause-ok c =
    let counted = walk_grows _ _ _ _ _ c.lines.invariant.walk in
    walk_over _ _ _ _ _ (walk_at_end _ _ _ _ _ c.lines.invariant.walk c.in_default.is)
    (omega (arith, counted, c.len.ensures, c.len-before.ensures, ap length c.accepted-2.ensures.accepted, ap length c.accepted.ensures.accepted))
