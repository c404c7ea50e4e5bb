-- Where a list has the first member that passes a test.
use Rattle.std.proofs.Common.{◌≡◌, refl, sym, ◌∙◌, ap, ℕ, zero, suc, ◌+◌, ◌<◌, ◌≤◌, List, [], ◌∷◌, length, drop, get_or, Bool, true, false, cond, arith, inl, inr, ltb, length-drop}
use Rattle.std.proofs.Common.{length-take, take, ◌-◌}
use Rattle.std.specs.Prelude.{Some, None, All, option_map, position}
use Rattle.std.specs.List.{position_or_len}
use Rattle.std.proofs.lemmas.Bool.{cases_Bool, cases_lt, le-ltb, lt-ltb, ltb-true, ltb-false, true≢false}
use Rattle.std.proofs.lemmas.List.{get_or-drop, get_or-take}
use Rattle.std.proofs.lemmas.List.Quantifiers.{position-Some}
use Rattle.std.proofs.lemmas.List.Sums.{fails_before_first, passes_at_first, position_or_len_is}

no_number : (k : ℕ) → Some k ≡ None → ⊥
no_number k e = cc

-- no position: no member passes
pub none_passes : {X : Type 0} (p : X → Bool) (xs : List X) → position p xs ≡ None → All (λ x. p x ≡ false) xs
none_passes p xs e =
    elim (cases_Bool (ltb (position_or_len p xs) (length xs))) [
      | inl b ↦ absurd (no_number (position_or_len p xs) (rw b at e))
      | inr b ↦ λ k d below. let past : length xs ≤ position_or_len p xs = ltb-false _ _ b in fails_before_first p xs k d (omega (arith, past, below))
    ]

-- where none of the first ones passes, the first that does is found after them
pub found_after : {X : Type 0} (p : X → Bool) (xs : List X) (c : ℕ) (d : X) → c ≤ length xs → ((k : ℕ) → k < c → p (get_or xs k d) ≡ false)
    → option_map (λ k. c + k) (position p (drop c xs)) ≡ position p xs
found_after {X = X} p xs c d within fails = elim (cases_Bool (ltb (position_or_len p (drop c xs)) (length (drop c xs)))) [
  | inl e ↦
      let below : position_or_len p (drop c xs) < length (drop c xs) = ltb-true _ _ e in
      let all : ltb (position_or_len p xs) (length xs) ≡ true = lt-ltb _ _ (omega (arith, below, same, length-drop c xs)) in
      rw (e, all) (ap Some (sym same))
  | inr e ↦
      let past : length (drop c xs) ≤ position_or_len p (drop c xs) = ltb-false _ _ e in
      let all : ltb (position_or_len p xs) (length xs) ≡ false = le-ltb _ _ (omega (arith, past, same, length-drop c xs)) in
      rw (e, all) refl
]
  where
    from : (xs : List X) (c : ℕ) → c ≤ length xs → ((k : ℕ) → k < c → p (get_or xs k d) ≡ false) → position_or_len p xs ≡ c + position_or_len p (drop c xs)
    from xs zero within fails = omega arith
    from [] (suc c) within fails = absurd (omega (arith, within))
    from (x ∷ xs) (suc c) within fails =
        let rest = from xs c (omega (arith, within)) (λ k below. fails (suc k) (omega (arith, below))) in
        rw (fails 0 (omega arith)) (omega (arith, rest))

    same : position_or_len p xs ≡ c + position_or_len p (drop c xs)
    same = from xs c within fails

-- no member passes: no position
pub none_found : {X : Type 0} (p : X → Bool) (xs : List X) → All (λ x. p x ≡ false) xs → position p xs ≡ None
none_found p [] all = refl
none_found p (x ∷ xs) all =
    elim (cases_Bool (ltb (position_or_len p (x ∷ xs)) (length (x ∷ xs)))) [
      | inl b ↦
          let below : position_or_len p (x ∷ xs) < length (x ∷ xs) = ltb-true _ _ b in
          absurd (true≢false (sym (passes_at_first p (x ∷ xs) x below) ∙ all (position_or_len p (x ∷ xs)) x below))
      | inr b ↦ ap (λ (t : Bool). cond t (Some (position_or_len p (x ∷ xs))) None) b
    ]

-- a part of a list, from its member at `c` on
module _ {X : Type 0} (p : X → Bool) (xs part : List X) (c : ℕ) (d : X) (within : c ≤ length xs) (fails : (k : ℕ) → k < c → p (get_or xs k d) ≡ false)
    (is : part ≡ take (length part) (drop c xs)) where
  pub part_within : c + length part ≤ length xs
  part_within = omega (arith, within, ap length is, length-take (length part) (drop c xs), length-drop c xs)

  part_at : (j : ℕ) → j < length part → get_or part j d ≡ get_or xs (c + j) d
  part_at j l = ap (λ l. get_or l j d) is ∙ get_or-take (length part) (drop c xs) j d l ∙ get_or-drop c xs j d

  fails_in : (i : ℕ) → i ≤ length part → ((j : ℕ) → j < i → p (get_or part j d) ≡ false) → (k : ℕ) → k < c + i → p (get_or xs k d) ≡ false
  fails_in i few none k l = elim (cases_lt k c) [
    | inl before ↦ fails k before
    | inr behind ↦
        let on : c + (k - c) ≡ k = omega (arith, behind) in
        ap (λ n. p (get_or xs n d)) (sym on) ∙ ap p (sym (part_at (k - c) (omega (arith, behind, l, few)))) ∙ none (k - c) (omega (arith, behind, l))
  ]

  -- its first member that passes is the first of the list
  pub part_passes : (i : ℕ) → position p part ≡ Some i → Some (c + i) ≡ position p xs
  part_passes i there =
      let f = position-Some p part i d there in
      let below : c + i < length xs = omega (arith, f.0, part_within) in
      let first : position_or_len p xs ≡ c + i =
      position_or_len_is p xs (c + i) d (omega (arith, below)) (fails_in i (omega (arith, f.0)) f.2) (λ l. ap p (sym (part_at i f.0)) ∙ f.1) in
      rw (first, lt-ltb (c + i) (length xs) below) refl

  -- none of its members passes
  pub part_fails : position p part ≡ None → (k : ℕ) → k < c + length part → p (get_or xs k d) ≡ false
  part_fails none = fails_in (length part) (omega arith) (λ j l. none_passes p part none j d l)

-- none of all passes
pub none_before : {X : Type 0} (p : X → Bool) (xs : List X) (n : ℕ) (d : X) → length xs ≤ n → ((k : ℕ) → k < n → p (get_or xs k d) ≡ false) → None ≡ position p xs
none_before p xs n d all fails =
    let none : position_or_len p xs ≡ length xs = position_or_len_is p xs (length xs) d (omega arith) (λ k l. fails k (omega (arith, l, all))) (λ l. absurd (omega (arith, l))) in
    rw (none, le-ltb (length xs) (length xs) (omega arith)) refl
