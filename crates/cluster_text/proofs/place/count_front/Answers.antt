use Rattle.std.proofs.Common.{ap, arith, length}
use Rattle.cluster_text.proofs.ScalarLemmas.{few_scalars, scalars_of_text, passed_all, passed_next}
use Rattle.cluster_text.proofs.place.count_front.Goals as goal

pub overflow_add-scalars : goal.overflow_add-scalars
overflow_add-scalars c =
    let next = passed_next _ _ _ _ _ _ _ c.passed.invariant c.in-Some.ensures.steps c.count_scalars-scalars.ensures.text c.count_scalars-scalars.ensures.count in
    let whole = scalars_of_text _ _ c.utf8.text c.graphemes-clusters.ensures.left in
    omega (arith, next.others, whole, few_scalars _ c.utf8.text)

pub passed-preserved : goal.passed-preserved
passed-preserved c = passed_next _ _ _ _ _ _ _ c.passed.invariant c.in-Some.ensures.steps c.count_scalars-scalars.ensures.text c.count_scalars-scalars.ensures.count

pub returns-in-None : goal.returns-in-None
returns-in-None c =
    let all = passed_all _ _ _ _ c.passed.invariant c.in-None.ensures.steps.0 in
    absurd (omega (arith, all, c.passed-test.true, c.requires, ap length c.graphemes-clusters.ensures.left))
