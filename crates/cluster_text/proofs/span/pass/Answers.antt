use Rattle.std.proofs.Common.{ap, arith}
use Rattle.std.specs.Option.{is_some}
use Rattle.cluster_text.proofs.ScalarLemmas.{passed_all, passed_next}
use Rattle.cluster_text.proofs.span.pass.Goals as goal

pub returns-in_err-next-clause-none : goal.returns-in_err-next-clause-none
returns-in_err-next-clause-none c =
    let all = passed_all _ _ _ _ c.passed.invariant c.in_err-next.ensures.steps.0 in
    (λ _. omega (arith, all), λ _. ap is_some c.from_residual.ensures)

pub overflow_add-scalars : goal.overflow_add-scalars
overflow_add-scalars c =
    let next = passed_next _ _ _ _ _ _ _ c.passed.invariant c.in_ok-next.ensures.steps c.count.ensures.text c.count.ensures.count in
    omega (arith, next.others, c.requires)

pub passed-preserved : goal.passed-preserved
passed-preserved c = passed_next _ _ _ _ _ _ _ c.passed.invariant c.in_ok-next.ensures.steps c.count.ensures.text c.count.ensures.count
