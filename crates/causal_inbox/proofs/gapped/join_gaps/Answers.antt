use Rattle.std.proofs.Common.{ap, arith, sym, subst, List, ℕ, ◌∷◌, ◌++◌, ◌+◌, ◌-◌, ◌<◌, ◌≤◌, ◌≡◌, ◌∙◌, drop, get_or, length, take}
use Rattle.std.proofs.lemmas.List.{drop_more}
use Rattle.causal_inbox.specs.Gap.{AreGaps, between_gaps}
use Rattle.causal_inbox.proofs.SpacedLemmas.{gaps_end, joined}
use Rattle.causal_inbox.proofs.gapped.join_gaps.Goals as goal

-- the next gap, after the one that there is
next_gap : (from : ℕ) (gaps : List ℕ) (i end : ℕ) → i < length gaps → AreGaps from (drop i gaps) end → AreGaps from (get_or gaps i 0 ∷ drop (i + 1) gaps) end
next_gap from gaps i end within = subst (λ l. AreGaps from l end) (drop_more gaps i 0 within)

pub move_gap-requires-clause-from : goal.move_gap-requires-clause-from
move_gap-requires-clause-from g c = gaps_end (c.gaps.at + c.gaps.size) (drop c.gaps.gap-index c.args.gaps.now) (length c.gaps.items) c.gaps.invariant.in_order

pub overflow_sub-next : goal.overflow_sub-next
overflow_sub-next g c =
    let next = next_gap (c.gaps.at + c.gaps.size) c.args.gaps.now c.gaps.gap-index (length c.gaps.items) c.gaps-test.true c.gaps.invariant.in_order in
    omega (arith, next.0)

pub move_gap-requires-clause-to : goal.move_gap-requires-clause-to
move_gap-requires-clause-to g c =
    let gap : ℕ = get_or c.args.gaps.now c.gaps.gap-index 0 in
    let next = next_gap (c.gaps.at + c.gaps.size) c.args.gaps.now c.gaps.gap-index (length c.gaps.items) c.gaps-test.true c.gaps.invariant.in_order in
    let end : gap + 1 ≤ length c.gaps.items = gaps_end (gap + 1) (drop (c.gaps.gap-index + 1) c.args.gaps.now) (length c.gaps.items) next.1 in
    omega (arith, next.0, end)

pub gaps-preserved : goal.gaps-preserved
gaps-preserved g c =
    let at : ℕ = c.gaps.at in
    let size : ℕ = c.gaps.size in
    let gap : ℕ = get_or c.args.gaps.now c.gaps.gap-index 0 in
    let others : List ℕ = drop (c.gaps.gap-index + 1) c.args.gaps.now in
    let next : AreGaps (at + size) (gap ∷ others) (length c.gaps.items) =
    next_gap (at + size) c.args.gaps.now c.gaps.gap-index (length c.gaps.items) c.gaps-test.true c.gaps.invariant.in_order in
    let on : gap + 1 ≡ gap - size + (size + 1) = omega (arith, next.0) in
    record {
      size = omega (arith, c.gaps.invariant.size);
      len = c.move_gap.ensures.len ∙ c.gaps.invariant.len;
      after_gone = omega (arith, next.0, c.gaps.invariant.after_gone);
      in_order = subst (λ n. AreGaps n others (length c.move_gap.new.items)) on (subst (AreGaps (gap + 1) others) (sym c.move_gap.ensures.len) next.1);
      items = ap (λ n. drop c.args.gone (take (gap - size) c.move_gap.new.items) ++ between_gaps c.move_gap.new.items n others) (sym on)
          ∙ joined c.gaps.items c.move_gap.new.items c.args.gone at size gap others c.gaps.invariant.after_gone next c.move_gap.ensures.len c.move_gap.ensures.items
          ∙ ap (λ l. drop c.args.gone (take at c.gaps.items) ++ between_gaps c.gaps.items (at + size) l) (sym (drop_more c.args.gaps.now c.gaps.gap-index 0 c.gaps-test.true))
          ∙ c.gaps.invariant.items;
    }
