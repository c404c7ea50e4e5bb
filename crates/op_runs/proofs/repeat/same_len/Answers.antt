use Rattle.std.proofs.Common.{◌≡◌, ◌∙◌, arith, sym}
use Rattle.std.proofs.lemmas.List.{get_or_default}
use Rattle.op_runs.proofs.RepeatLemmas.{same_is}
use Rattle.op_runs.proofs.repeat.same_len.Goals as goal

pub returns-then-letters-count : goal.returns-then-letters-count
returns-then-letters-count c =
    let a = c.args.letters.now in
    let b = c.args.text.now in
    let k = c.loop-count.count in
    sym (same_is k a b 0 (omega (arith, c.loop-count-test.true, c.min-most.ensures)) (omega (arith, c.loop-count-test.true, c.min-most.ensures)) c.loop-count.invariant
    (λ p q e. c.if-letters-count.true ((c.index-letters-count.is ∙ get_or_default a k c.index-letters-count.result 0 p) ∙ e
    ∙ sym (c.index-text-count.is ∙ get_or_default b k c.index-text-count.result 0 q))))

pub returns : goal.returns
returns c =
    let k = c.loop-count.count in
    let end : c.min-most.result ≡ k = omega (arith, c.loop-count-test.false, c.loop-count.auto.count-end) in
    end ∙ sym (same_is k c.args.letters.now c.args.text.now 0 (omega (arith, end, c.min-most.ensures)) (omega (arith, end, c.min-most.ensures)) c.loop-count.invariant
    (λ p q. absurd (omega (arith, end, c.min-most.ensures, p, q))))
