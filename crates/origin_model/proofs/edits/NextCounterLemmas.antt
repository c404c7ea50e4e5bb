-- The next counter is one more than the greatest.
use Rattle.origin_model.proofs.Words.{All, All-head, All-tail, List, None, Op, Option, Some, [], ap, arith, filter, filter-append, flat_map, length, map, nat_eq, refl}
use Rattle.origin_model.proofs.Words.{slice_index_or, suc, zero, ℕ, ◌++◌, ◌<◌, ◌∙◌, ◌∷◌, ◌≡◌, ◌≤◌}
use Rattle.std.proofs.Common.{max}
use Rattle.std.proofs.Math.Nat.{le-max_left, le-max_right}
use Rattle.std.proofs.lemmas.Grind.{flat_map-append}
use Rattle.std.proofs.lemmas.List.{map-append}
use Rattle.origin_model.specs.operations.Counters.{counters, counters_among, IsGreatest, mentioned_ids}
use Rattle.origin_model.specs.edits.Edits.{above_all, next_counter, next_above}

-- what no number is above
above_le : (ns : List ℕ) (n : ℕ) → All (λ m. m ≤ n) ns → above_all ns ≤ suc n
above_le [] n a = omega arith
above_le (m ∷ ns) n a =
    let x : m ≤ n = All-head (λ m. m ≤ n) m ns a in
    let y : above_all ns ≤ suc n = above_le ns n (All-tail (λ m. m ≤ n) m ns a) in
    omega (arith, x, y)

-- a number of the list
le_above : (ns : List ℕ) (k n : ℕ) → k < length ns → slice_index_or ns k n ≡ n → suc n ≤ above_all ns
le_above [] k n l e = absurd (omega arith)
le_above (m ∷ ns) zero n l e = let x : suc m ≤ max (suc m) (above_all ns) = le-max_left (suc m) (above_all ns) in omega (arith, e, x)
le_above (m ∷ ns) (suc k) n l e =
    let x : suc n ≤ above_all ns = le_above ns k n (omega (arith, l)) e in
    let y : above_all ns ≤ max (suc m) (above_all ns) = le-max_right (suc m) (above_all ns) in
    omega (arith, x, y)

-- two numbers, neither below the other
same_number : (a b : ℕ) → a ≤ b → b ≤ a → a ≡ b
same_number a b l k = omega (arith, l, k)

-- what is above all numbers, by the greatest
above_greatest : (ns : List ℕ) (g : Option ℕ) → IsGreatest ns g → above_all ns ≡ next_above g
above_greatest ns None g = ap above_all (g.none.0 refl)
above_greatest ns (Some n) g = same_number (above_all ns) (suc n) (above_le ns n g.bound) (le_above ns g.member.0 n g.member.1 g.member.2)

-- the next counter is one more than the greatest, or 0
pub next_by_greatest : (r : ℕ) (h w : List Op) (greatest : Option ℕ) → IsGreatest (counters r (h ++ w)) greatest → next_counter r h w ≡ next_above greatest
next_by_greatest r h w o g = above_greatest (counters r (h ++ w)) o g

-- what is above the numbers of two lists
above-append : (xs ys : List ℕ) → above_all (xs ++ ys) ≡ max (above_all xs) (above_all ys)
above-append [] ys = omega arith
above-append (x ∷ xs) ys = let e : above_all (xs ++ ys) ≡ max (above_all xs) (above_all ys) = above-append xs ys in omega (arith, e)

-- the counters of two lists of operations
pub counters-append : (r : ℕ) (h w : List Op) → counters r (h ++ w) ≡ counters r h ++ counters r w
counters-append r h w =
    ap (counters_among r) (flat_map-append mentioned_ids h w)
    ∙ ap (map (λ id. id.counter)) (filter-append (λ id. nat_eq id.replica r) (flat_map mentioned_ids h) (flat_map mentioned_ids w))
    ∙ map-append (λ id. id.counter) (filter (λ id. nat_eq id.replica r) (flat_map mentioned_ids h)) (filter (λ id. nat_eq id.replica r) (flat_map mentioned_ids w))

-- the next counter, by two greatest ones
pub next_by_two : (r : ℕ) (h w : List Op) (accepted waiting : Option ℕ) → IsGreatest (counters r h) accepted → IsGreatest (counters r w) waiting
    → next_counter r h w ≡ max (next_above accepted) (next_above waiting)
next_by_two r h w a b f g =
    ap above_all (counters-append r h w) ∙ above-append (counters r h) (counters r w)
    ∙ (λ i. max (above_greatest (counters r h) a f i) (above_greatest (counters r w) b g i))
