use Rattle.origin_model.proofs.Words.{Bool, Identifier, List, Op, ap, arith, before_in, chain_before, get_or, lefts, length, reverse, sibling, sym, true, ℕ, ◌+◌, ◌-◌, ◌<◌, ◌∙◌}
use Rattle.origin_model.proofs.Words.{◌≡◌, ◌≤◌}
use Rattle.std.proofs.Common.{◌/◌}
use Rattle.origin_model.proofs.order.OrderLemmas.{stands_before, stands_after}
use Rattle.origin_model.proofs.order.listing.count_before.Goals as goal

-- the middle lies in the list
within : (low high size : ℕ) → low < high → high ≤ size → low + (high - low) / 2 < size
within low high size less end = omega (arith, less, end)

-- what the comparison of the element e at i answers
compared : (o : List Identifier) (h : List Op) (x e : Identifier) (i : ℕ) (chain : List Identifier) (answer : Bool) → e ≡ get_or o i e → chain ≡ lefts h x
    → answer ≡ chain_before true (sibling o h) (lefts h e) chain → before_in o h (get_or o i e) x ≡ answer
compared o h x e i chain answer is same says = ap (λ z. before_in o h z x) (sym is) ∙ ap (chain_before true (sibling o h) (lefts h e)) (sym same) ∙ sym says

pub halving-preserved-then-branch : goal.halving-preserved-then-branch
halving-preserved-then-branch c =
    let o = c.args.finished.now in
    let h = reverse c.args.ops.now in
    let m = c.halving.low + (c.halving.high - c.halving.low) / 2 in
    let below = within c.halving.low c.halving.high (length o) c.halving-test.true c.halving.invariant.within in
    let compared_is = compared o h c.args.x c.index-finished-middle.result m c.as_slice.result.now c.in_ok-is_before.field-0 c.index-finished-middle.is
    (c.as_slice.ensures.value ∙ c.in_ok-chain.ensures) c.in_ok-is_before.ensures in
    let n = stands_before o h c.args.x c.index-finished-middle.result m c.requires below (compared_is ∙ c.if-branch.true) in
    record { low = omega (arith, n); high = c.halving.invariant.high; within = c.halving.invariant.within }

pub halving-preserved : goal.halving-preserved
halving-preserved c =
    let e = c.index-finished-middle.result in
    let m = c.halving.low + (c.halving.high - c.halving.low) / 2 in
    let below = within c.halving.low c.halving.high (length c.args.finished.now) c.halving-test.true c.halving.invariant.within in
    let compared_is = compared c.args.finished.now (reverse c.args.ops.now) c.args.x e m c.as_slice.result.now c.in_ok-is_before.field-0 c.index-finished-middle.is
    (c.as_slice.ensures.value ∙ c.in_ok-chain.ensures) c.in_ok-is_before.ensures in
    let n = stands_after c.args.finished.now (reverse c.args.ops.now) c.args.x e m c.requires below (compared_is ∙ c.if-branch.false) in
    record { low = c.halving.invariant.low; high = n; within = omega (arith, below) }
