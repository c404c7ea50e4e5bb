use Rattle.std.proofs.Common.{◌≡◌, ◌-◌, ◌<◌, ◌∷◌, ◌++◌, List, length, take, drop, sym, ap, ◌∙◌, arith}
use Rattle.cluster_text.specs.declared.part.Part.{Part}
use Rattle.cluster_text.proofs.TreeLemmas.{drop-past, take-past}
use Rattle.cluster_text.proofs.balance.+split.Goals as goal

pub returns-else-n-before-clause-front : goal.returns-else-n-before-clause-front
returns-else-n-before-clause-front t c =
    let before : c.len-before.result ≡ length c.in-Some.left = omega (arith, c.len-before.ensures, c.if-n-before.false, c.ranges.n.fits) in
    let past : length c.in-Some.left < c.args.n = omega (arith, before, c.if-n-before.false) in
    c.join-else-n-before.ensures
    ∙ ap (λ (ps : List Part). c.in-Some.left ++ c.in-Some.middle.value.part ∷ ps)
    (c.split-front-else-n-before.ensures.front ∙ ap (λ k. take (c.args.n - k - 1) c.in-Some.right) before)
    ∙ sym (ap (take c.args.n) (c.in-Some.ensures.some) ∙ take-past c.in-Some.middle.value.part c.in-Some.right c.args.n c.in-Some.left past)

pub returns-else-n-before-clause-back : goal.returns-else-n-before-clause-back
returns-else-n-before-clause-back t c =
    let before : c.len-before.result ≡ length c.in-Some.left = omega (arith, c.len-before.ensures, c.if-n-before.false, c.ranges.n.fits) in
    let past : length c.in-Some.left < c.args.n = omega (arith, before, c.if-n-before.false) in
    c.split-front-else-n-before.ensures.back ∙ ap (λ k. drop (c.args.n - k - 1) c.in-Some.right) before
    ∙ sym (ap (drop c.args.n) (c.in-Some.ensures.some) ∙ drop-past c.in-Some.middle.value.part c.in-Some.right c.args.n c.in-Some.left past)
