-- Ages that are added to lists and dropped from them.
use Rattle.std.proofs.Common.{ap, arith, get_or, inl, inr, refl, subst, true, length, ℕ, zero, suc, List, [], ◌∷◌, ◌++◌, Bool, not, nat_eq, ◌+◌, ◌-◌, ◌<◌, ◌≤◌, ◌∙◌, ◌≡◌, ◌≢◌}
use Rattle.std.proofs.Common.{length-append}
use Rattle.std.specs.Prelude.{Some, slice_get, filter, All, AllPairs, Result, Ok, Err}
use Rattle.std.specs.List.{position_or_len, remove}
use Rattle.std.specs.List.Sorted.{IsBinarySearchResult}
use Rattle.std.specs.Ordering.{nat_cmp}
use Rattle.std.proofs.lemmas.Bool.{cases_Bool, cases_lt, eq-eqb, ne_eqb}
use Rattle.std.proofs.lemmas.Option.{slice_get-get_or, slice_get_within, get_or_from_slice_get}
use Rattle.std.proofs.lemmas.List.{append-nil}
use Rattle.std.proofs.lemmas.List.Elements.{All-get_or, All-head, All-tail, All-weaker, All-from_get_or, filter-append, filter_passes}
use Rattle.std.proofs.lemmas.List.Quantifiers.{all_pairs_push}
use Rattle.std.proofs.lemmas.List.Sorted.{searched}
use Rattle.std.proofs.lemmas.List.Sums.{position_or_len_is}
use Rattle.fugue_ids.proofs.ListLemmas.{all_pairs_head, all_pairs_tail, slice_get-seam}
use Rattle.causal_inbox.specs.Index.{IsFirstFrom, with_age, without_age, is_last}

-- an age is added once
pub added_twice : (a : ℕ) (ages : List ℕ) → with_age (with_age ages a) a ≡ with_age ages a
added_twice a ages =
    let behind : length (ages ++ a ∷ []) - 1 ≡ length ages = omega (arith, length-append ages (a ∷ [])) in
    elim (cases_Bool (is_last ages a)) [ inl e ↦ rw (e, e) | inr e ↦ rw (e, behind, slice_get-seam ages a, eq-eqb a a refl) ]

-- a filter that all pass keeps all
filter_all : (p : ℕ → Bool) (xs : List ℕ) → All (λ x. p x ≡ true) xs → filter p xs ≡ xs
filter_all p [] all = refl
filter_all p (x ∷ xs) all = rw (All-head (λ y. p y ≡ true) x xs all) (ap (λ l. x ∷ l) (filter_all p xs (All-tail (λ y. p y ≡ true) x xs all)))

-- an age is dropped once
pub dropped_twice : (a : ℕ) (ages : List ℕ) → without_age (without_age ages a) a ≡ without_age ages a
dropped_twice a ages = filter_all (λ b. not (nat_eq b a)) (without_age ages a) (filter_passes (λ b. not (nat_eq b a)) ages)

-- an age that does not stand in a list leaves it as it is, where it is dropped
dropped_apart : (a : ℕ) (ages : List ℕ) → All (λ b. b ≢ a) ages → without_age ages a ≡ ages
dropped_apart a ages apart = filter_all (λ b. not (nat_eq b a)) ages (All-weaker (λ b. b ≢ a) (λ b. not (nat_eq b a) ≡ true) (λ b other. ap not (ne_eqb b a other)) ages apart)

-- so does an age that is above all
pub dropped_above : (a : ℕ) (ages : List ℕ) → All (λ b. b < a) ages → without_age ages a ≡ ages
dropped_above a ages above = dropped_apart a ages (All-weaker (λ b. b < a) (λ b. b ≢ a) (λ b below same. omega (arith, below, same)) ages above)

-- and one that is below all
pub dropped_below : (a : ℕ) (ages : List ℕ) → All (λ b. a < b) ages → without_age ages a ≡ ages
dropped_below a ages below = dropped_apart a ages (All-weaker (λ b. a < b) (λ b. b ≢ a) (λ b above same. omega (arith, above, same)) ages below)

-- the age alone
pub dropped_own : (a : ℕ) → without_age (a ∷ []) a ≡ []
dropped_own a = rw (eq-eqb a a refl)

-- an age that is added above all others stands after them
pub added_above : (a : ℕ) (ages : List ℕ) → All (λ b. b < a) ages → with_age ages a ≡ ages ++ a ∷ []
added_above a [] above = refl
added_above a (c ∷ ages) above =
    let within : length (c ∷ ages) - 1 < length (c ∷ ages) = omega arith in
    let last : get_or (c ∷ ages) (length (c ∷ ages) - 1) 0 < a = All-get_or (λ b. b < a) (c ∷ ages) (length (c ∷ ages) - 1) 0 within above in
    rw (slice_get-get_or (c ∷ ages) (length (c ∷ ages) - 1) 0 within, ne_eqb (get_or (c ∷ ages) (length (c ∷ ages) - 1) 0) a (λ same. omega (arith, last, same)))

-- an age that was added goes again
pub added_dropped : (a : ℕ) (ages : List ℕ) → All (λ b. b < a) ages → without_age (with_age ages a) a ≡ ages
added_dropped a ages above =
    ap (λ l. without_age l a) (added_above a ages above) ∙ filter-append (λ b. not (nat_eq b a)) ages (a ∷ [])
    ∙ (λ i. dropped_above a ages above i ++ dropped_own a i) ∙ append-nil ages

-- ages still rise with one above all
pub rises_push : (ages : List ℕ) (a : ℕ) → AllPairs ◌<◌ ages → All (λ b. b < a) ages → AllPairs ◌<◌ (ages ++ a ∷ [])
rises_push ages a r above = all_pairs_push ◌<◌ ages a r (λ k d within. All-get_or (λ b. b < a) ages k d within above)

-- ages that rise do not fall
rises_on : (ages : List ℕ) → AllPairs ◌<◌ ages → (i j : ℕ) → i ≤ j → j < length ages → get_or ages i 0 ≤ get_or ages j 0
rises_on ages r i j order within = elim (cases_lt i j) [
  | inl before ↦ let less : get_or ages i 0 < get_or ages j 0 = r i j 0 before within in omega (arith, less)
  | inr behind ↦ let same : i ≡ j = omega arith in omega (arith, ap (λ k. get_or ages k 0) same)
]

-- an age above the last one is above all
pub above_last : (ages : List ℕ) (last : ℕ) → AllPairs ◌<◌ ages → slice_get ages (length ages - 1) ≡ Some last → All (λ b. b < last + 1) ages
above_last ages last r is =
    let within : length ages - 1 < length ages = slice_get_within ages (length ages - 1) last is in
    let at : get_or ages (length ages - 1) 0 ≡ last = get_or_from_slice_get ages (length ages - 1) last 0 is in
    All-from_get_or (λ b. b < last + 1) ages 0 (λ i in_list. omega (arith, rises_on ages r i (length ages - 1) (omega arith) within, at))

-- the position of an age that was found
pub position_found : (ages : List ℕ) (p a : ℕ) → AllPairs ◌<◌ ages → p < length ages → get_or ages p 0 ≡ a → position_or_len (λ b. nat_eq b a) ages ≡ p
position_found ages p a r within at = position_or_len_is (λ b. nat_eq b a) ages p 0 (omega arith)
    (λ k before. let less : get_or ages k 0 < get_or ages p 0 = r k p 0 before within in ne_eqb (get_or ages k 0) a (λ same. omega (arith, less, same, at)))
    (λ there. eq-eqb (get_or ages p 0) a at)

-- a search that finds nothing
unfound : (ages : List ℕ) (a p : ℕ) → AllPairs ◌<◌ ages → IsBinarySearchResult (λ b. nat_cmp b a) ages (Err p) → (k : ℕ) → k < length ages → get_or ages k 0 ≢ a
unfound ages a p r s k within e =
    let f = searched ages a (Err p) s (rises_on ages r) in
    elim (cases_lt k p) [ inl before ↦ omega (arith, f.1 k before, e) | inr behind ↦ omega (arith, f.2 k behind within, e) ]

-- the position of an age that is not there
pub position_none : (ages : List ℕ) (a first : ℕ) → AllPairs ◌<◌ ages → IsFirstFrom ages a first → (first < length ages → get_or ages first 0 ≢ a)
    → position_or_len (λ b. nat_eq b a) ages ≡ length ages
position_none ages a first r is other = position_or_len_is (λ b. nat_eq b a) ages (length ages) 0 (omega arith)
    (λ k within. ne_eqb (get_or ages k 0) a (apart k within)) (λ there. absurd (omega (arith, there)))
  where
    apart : (k : ℕ) → k < length ages → get_or ages k 0 ≢ a
    apart k within e = elim (cases_lt k first) [
      | inl before ↦ omega (arith, is.before k before, e)
      | inr behind ↦
          let in_list : first < length ages = omega (arith, behind, within) in
          other in_list (omega (arith, rises_on ages r first k behind within, is.behind first (omega arith) in_list, e))
    ]

-- without an age that was found
dropped_found : (ages : List ℕ) (p a : ℕ) → AllPairs ◌<◌ ages → p < length ages → get_or ages p 0 ≡ a → without_age ages a ≡ remove ages p
dropped_found [] p a r within at = absurd (omega (arith, within))
dropped_found (b ∷ ages) zero a r within at = rw (eq-eqb b a at) (dropped_below a ages (subst (λ d. All (λ c. d < c) ages) at (all_pairs_head ◌<◌ b ages r)))
dropped_found (b ∷ ages) (suc p) a r within at =
    let less : b < get_or ages p 0 = r 0 (suc p) 0 (omega arith) within in
    rw (ne_eqb b a (λ same. omega (arith, less, same, at))) (ap (λ l. b ∷ l) (dropped_found ages p a (all_pairs_tail ◌<◌ b ages r) (omega (arith, within)) at))

-- without an age that is searched for
pub dropped_searched : (ages list : List ℕ) (a : ℕ) (r : Result ℕ ℕ) → list ≡ ages → AllPairs ◌<◌ ages → IsBinarySearchResult (λ b. nat_cmp b a) list r
    → without_age ages a ≡ elim r [ Ok p ↦ remove ages p | Err p ↦ ages ]
dropped_searched ages list a r same rises found = by_answer r (subst (λ l. IsBinarySearchResult (λ b. nat_cmp b a) l r) same found)
  where
    by_answer : (r : Result ℕ ℕ) → IsBinarySearchResult (λ b. nat_cmp b a) ages r → without_age ages a ≡ elim r [ Ok p ↦ remove ages p | Err p ↦ ages ]
    by_answer (Ok p) s = let f = searched ages a (Ok p) s (rises_on ages rises) in dropped_found ages p a rises f.0 f.1
    by_answer (Err p) s = dropped_apart a ages (All-from_get_or (λ b. b ≢ a) ages 0 (unfound ages a p rises s))
