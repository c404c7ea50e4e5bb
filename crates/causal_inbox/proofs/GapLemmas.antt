-- What stands around a gap.
use Rattle.std.proofs.Common.{ap, arith, sym, List, ℕ, [], ◌∷◌, ◌++◌, ◌+◌, ◌<◌, ◌≡◌, ◌∙◌, length, drop, take, set, get_or}
use Rattle.std.specs.List.{swap}
use Rattle.std.proofs.lemmas.List.{append_assoc, drop-set, drop-set-lt, drop_more, length-set, take-set-le, take_more, take_more_set}
use Rattle.std.proofs.lemmas.List.Edits.{swap_is}
use Rattle.causal_inbox.specs.Gap.{items_around_gap}

-- the item after the gap goes before it
pub moved_on : {X : Type 0} (xs : List X) (at size : ℕ) → 0 < size → at + size < length xs
    → items_around_gap (swap xs at (at + size)) (at + 1) size ≡ items_around_gap xs at size
moved_on [] at size some within = absurd (omega (arith, within))
moved_on (d ∷ rest) at size some within =
    let xs : List _ = d ∷ rest in
    let behind = get_or xs (at + size) d in
    let mid : List _ = set xs at behind in
    let new : List _ = set mid (at + size) (get_or xs at d) in
    let below : at < length xs = omega (arith, within) in
    let front : take (at + 1) new ≡ take at xs ++ behind ∷ [] =
    take-set-le (at + 1) mid (at + size) (get_or xs at d) (omega (arith, some)) ∙ take_more_set xs at behind below in
    let others : drop (at + 1 + size) new ≡ drop (at + size + 1) xs =
    drop-set-lt (at + 1 + size) mid (at + size) (get_or xs at d) (omega arith) ∙ drop-set-lt (at + 1 + size) xs at behind (omega arith)
    ∙ ap (λ n. drop n xs) {x = at + 1 + size} {y = at + size + 1} (omega arith) in
    ap (λ l. items_around_gap l (at + 1) size) (sym (swap_is xs at (at + size) d below within))
    ∙ (λ i. front i ++ others i)
    ∙ append_assoc (take at xs) (behind ∷ []) (drop (at + size + 1) xs)
    ∙ ap (λ l. take at xs ++ l) (sym (drop_more xs (at + size) d within))

-- the item before the gap goes after it
pub moved_back : {X : Type 0} (xs : List X) (at size : ℕ) → 0 < size → at + size < length xs
    → items_around_gap (swap xs at (at + size)) at size ≡ items_around_gap xs (at + 1) size
moved_back [] at size some within = absurd (omega (arith, within))
moved_back (d ∷ rest) at size some within =
    let xs : List _ = d ∷ rest in
    let before = get_or xs at d in
    let mid : List _ = set xs at (get_or xs (at + size) d) in
    let below : at < length xs = omega (arith, within) in
    let front : take at (set mid (at + size) before) ≡ take at xs =
    take-set-le at mid (at + size) before (omega arith) ∙ take-set-le at xs at (get_or xs (at + size) d) (omega arith) in
    let others : drop (at + size) (set mid (at + size) before) ≡ before ∷ drop (at + size + 1) xs =
    drop-set mid (at + size) before (omega (arith, within, length-set xs at (get_or xs (at + size) d)))
    ∙ ap (λ l. before ∷ l) (drop-set-lt (at + size + 1) xs at (get_or xs (at + size) d) (omega arith)) in
    ap (λ l. items_around_gap l at size) (sym (swap_is xs at (at + size) d below within))
    ∙ (λ i. front i ++ others i)
    ∙ sym (append_assoc (take at xs) (before ∷ []) (drop (at + size + 1) xs))
    ∙ (λ i. sym (take_more xs at d below) i ++ drop (at + size + 1) xs)
    ∙ ap (λ n. take (at + 1) xs ++ drop n xs) {x = at + size + 1} {y = at + 1 + size} (omega arith)
