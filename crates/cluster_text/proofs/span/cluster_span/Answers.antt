use Rattle.std.proofs.Common.{arith}
use Rattle.cluster_text.proofs.ScalarLemmas.{few_scalars, scalars_of_text}
use Rattle.cluster_text.proofs.span.cluster_span.Goals as goal

pub pass-requires : goal.pass-requires
pass-requires c =
    let whole = scalars_of_text _ _ c.utf8.text c.graphemes-clusters.ensures.left in
    omega (arith, whole, few_scalars _ c.utf8.text)

pub pass-requires-2 : goal.pass-requires-2
pass-requires-2 c =
    let whole = scalars_of_text _ _ c.utf8.text c.graphemes-clusters.ensures.left in
    omega (arith, whole, few_scalars _ c.utf8.text, c.in_ok-start.ensures.passed.others)

pub returns-clause-within : goal.returns-clause-within
returns-clause-within c =
    let whole = scalars_of_text _ _ c.utf8.text c.graphemes-clusters.ensures.left in
    omega (arith, whole, c.in_ok-start.ensures.passed.others, c.in_ok-len.ensures.passed.others)
