-- A list with others put in at its positions: in which order they stand, and what is a member.
use Rattle.std.proofs.Common.{Bool, List, [], ap, append_assoc, arith, false, inl, inr, length, refl, subst, sym, true, ℕ, ◌+◌, ◌++◌, ◌≤◌, ◌∙◌, ◌∷◌, ◌≡◌, ◌⊎◌}
use Rattle.std.specs.Prelude.{if◌then◌else◌}
use Rattle.std.specs.List.{All, AllPairs, Contains}
use Rattle.std.proofs.lemmas.Bool.{cases_lt}
use Rattle.std.proofs.lemmas.List.{length-append}
use Rattle.std.proofs.lemmas.List.Elements.{All-contains, Contains-append_cases, Contains-append_left, Contains-append_right}
use Rattle.fugue_ids.specs.Identifiers.{Identifier}
use Rattle.fugue_ids.proofs.ListLemmas.{all_from_contains, all_pairs_across, all_pairs_append, all_pairs_nil, contains_cases, contains_here, contains_none, contains_there}
use Rattle.std.proofs.lemmas.List.Kept.{AllPairs-cons}
use Rattle.std.proofs.lemmas.List.Elements.{All-nil}

-- the member, where it is not gone
abbrev pub left_of_it : (Identifier → Bool) → Identifier → List Identifier
left_of_it gone c = if gone c then [] else c ∷ []

-- from a position on, what is put in front of each member, and the member where it is not gone
abbrev pub merged : (puts : ℕ → List Identifier) → (gone : Identifier → Bool) → ℕ → List Identifier → List Identifier
merged puts gone i [] = puts i
merged puts gone i (c ∷ cs) = puts i ++ (left_of_it gone c ++ merged puts gone (i + 1) cs)

-- what is left of it is it, and it is not gone
pub is_left : (gone : Identifier → Bool) (c z : Identifier) → Contains (left_of_it gone c) z → (c ≡ z) × (gone z ≡ false)
is_left gone c z m = by_test (gone c) refl m
  where
    by_test : (b : Bool) → gone c ≡ b → Contains (if b then [] else c ∷ []) z → (c ≡ z) × (gone z ≡ false)
    by_test true e m = absurd (contains_none z m)
    by_test false e m = elim (contains_cases c [] z m) [ inl d ↦ (d, ap gone (sym d) ∙ e) | inr k ↦ absurd (contains_none z k) ]

-- it is left where it is not gone
pub left_is : (gone : Identifier → Bool) (c : Identifier) → gone c ≡ false → Contains (left_of_it gone c) c
left_is gone c e = subst (λ b. Contains (if b then [] else c ∷ []) c) (sym e) (contains_here c [])

-- members of a merged list
module _ (puts : ℕ → List Identifier) (gone : Identifier → Bool) where
  -- each is one that is put, or one of the list that is not gone
  pub merged_from : (i : ℕ) (cs : List Identifier) (z : Identifier) → Contains (merged puts gone i cs) z
      → ((k : ℕ) × Contains (puts k) z) ⊎ (Contains cs z × (gone z ≡ false))
  merged_from i [] z m = inl (i, m)
  merged_from i (c ∷ cs) z m =
      elim (Contains-append_cases (puts i) (left_of_it gone c ++ merged puts gone (i + 1) cs) z m) [
        | inl k ↦ inl (i, k)
        | inr k ↦ elim (Contains-append_cases (left_of_it gone c) (merged puts gone (i + 1) cs) z k) [
          | inl j ↦ let o = is_left gone c z j in inr (subst (Contains (c ∷ cs)) o.0 (contains_here c cs), o.1)
          | inr j ↦ elim (merged_from (i + 1) cs z j) [ inl o ↦ inl o | inr o ↦ inr (contains_there c cs z o.0, o.1) ]
        ]
      ]

  -- what is put at a position of the list is one
  pub merged_put : (i : ℕ) (cs : List Identifier) (z : Identifier) (k : ℕ) → Contains (puts k) z → i ≤ k → k ≤ i + length cs → Contains (merged puts gone i cs) z
  merged_put i [] z k m a b = let e : k ≡ i = omega (arith, a, b) in subst (λ n. Contains (puts n) z) e m
  merged_put i (c ∷ cs) z k m a b =
      elim (first i k a) [
        | inl e ↦ Contains-append_left (puts i) (left_of_it gone c ++ merged puts gone (i + 1) cs) z (subst (λ n. Contains (puts n) z) (sym e) m)
        | inr l ↦ Contains-append_right (puts i) (left_of_it gone c ++ merged puts gone (i + 1) cs) z
            (Contains-append_right (left_of_it gone c) (merged puts gone (i + 1) cs) z (merged_put (i + 1) cs z k m l (omega (arith, b))))
      ]
    where
      first : (i k : ℕ) → i ≤ k → (i ≡ k) ⊎ (i + 1 ≤ k)
      first i k a = elim (cases_lt i k) [ inl l ↦ inr (omega (arith, l)) | inr l ↦ inl (omega (arith, l, a)) ]

  -- so is a member of the list that is not gone
  pub merged_stays : (i : ℕ) (cs : List Identifier) (z : Identifier) → Contains cs z → gone z ≡ false → Contains (merged puts gone i cs) z
  merged_stays i [] z m e = absurd (contains_none z m)
  merged_stays i (c ∷ cs) z m e =
      Contains-append_right (puts i) (left_of_it gone c ++ merged puts gone (i + 1) cs) z
      (elim (contains_cases c cs z m) [
        | inl d ↦ Contains-append_left (left_of_it gone c) (merged puts gone (i + 1) cs) z
            (subst (Contains (left_of_it gone c)) d (left_is gone c (ap gone d ∙ e)))
        | inr k ↦ Contains-append_right (left_of_it gone c) (merged puts gone (i + 1) cs) z (merged_stays (i + 1) cs z k e)
      ])

-- what is put at a position stands after all that is in front of it, and before all others
abbrev pub StandsAt : (R : Identifier → Identifier → Bool) (front back : List Identifier) → Identifier → Type 0
StandsAt R front back x = ((e : Identifier) → Contains front e → R e x ≡ true) × ((e : Identifier) → Contains back e → R x e ≡ true)

-- the order of a merged list
module _ (R : Identifier → Identifier → Bool) (trans : (x y z : Identifier) → R x y ≡ true → R y z ≡ true → R x z ≡ true)
    (puts : ℕ → List Identifier) (gone : Identifier → Bool) (S : List Identifier)
    (sorted : AllPairs (λ x y. R x y ≡ true) S) (each : (i : ℕ) → AllPairs (λ x y. R x y ≡ true) (puts i))
    (stands : (front back : List Identifier) → S ≡ front ++ back → (x : Identifier) → Contains (puts (length front)) x → StandsAt R front back x) where
  abbrev T : Identifier → Identifier → Type 0
  T x y = R x y ≡ true

  -- a member of the list stands before what is after it
  across : (front back : List Identifier) → S ≡ front ++ back → (x y : Identifier) → Contains front x → Contains back y → R x y ≡ true
  across front back e x y m n =
      All-contains (T x) back y (All-contains (λ a. All (T a) back) front x (all_pairs_across T front back (subst (AllPairs T) e sorted)) m) n

  moved : (front : List Identifier) (c : Identifier) (cs : List Identifier) → S ≡ front ++ c ∷ cs → S ≡ (front ++ c ∷ []) ++ cs
  moved front c cs e = e ∙ sym (append_assoc front (c ∷ []) cs)

  counted : (front : List Identifier) (c : Identifier) (i : ℕ) → i ≡ length front → i + 1 ≡ length (front ++ c ∷ [])
  counted front c i e = omega (arith, e, length-append front (c ∷ []))

  -- all that is in front stands before the merged list
  behind : (front cs : List Identifier) → S ≡ front ++ cs → (i : ℕ) → i ≡ length front → (z : Identifier) → Contains (merged puts gone i cs) z → (e : Identifier) → Contains front e
      → R e z ≡ true
  behind front [] s i l z m e n = (stands front [] s z (subst (λ k. Contains (puts k) z) l m)).0 e n
  behind front (c ∷ cs) s i l z m e n =
      elim (Contains-append_cases (puts i) (left_of_it gone c ++ merged puts gone (i + 1) cs) z m) [
        | inl k ↦ (stands front (c ∷ cs) s z (subst (λ q. Contains (puts q) z) l k)).0 e n
        | inr k ↦ elim (Contains-append_cases (left_of_it gone c) (merged puts gone (i + 1) cs) z k) [
          | inl j ↦ across front (c ∷ cs) s e z n (subst (Contains (c ∷ cs)) (is_left gone c z j).0 (contains_here c cs))
          | inr j ↦ behind (front ++ c ∷ []) cs (moved front c cs s) (i + 1) (counted front c i l) z j e (Contains-append_left front (c ∷ []) e n)
        ]
      ]

  -- a member stands before what is merged after it
  next : (front : List Identifier) (c : Identifier) (cs : List Identifier) → S ≡ front ++ c ∷ cs → (i : ℕ) → i ≡ length front → (z : Identifier)
      → Contains (merged puts gone (i + 1) cs) z → R c z ≡ true
  next front c cs s i l z m =
      behind (front ++ c ∷ []) cs (moved front c cs s) (i + 1) (counted front c i l) z m c (Contains-append_right front (c ∷ []) c (contains_here c []))

  -- what is left of a member is in order
  one : (c : Identifier) → AllPairs T (left_of_it gone c)
  one c = by_test (gone c)
    where
      by_test : (b : Bool) → AllPairs T (if b then [] else c ∷ [])
      by_test true = all_pairs_nil T
      by_test false = AllPairs-cons T c [] (All-nil (T c)) (all_pairs_nil T)

  -- the merged list is in order
  pub merged_ordered : (front cs : List Identifier) → S ≡ front ++ cs → (i : ℕ) → i ≡ length front → AllPairs T (merged puts gone i cs)
  merged_ordered front [] s i l = each i
  merged_ordered front (c ∷ cs) s i l =
      let rest : List Identifier = merged puts gone (i + 1) cs in
      let left : List Identifier = left_of_it gone c in
      all_pairs_append T (puts i) (left ++ rest) (each i)
      (all_pairs_append T left rest (one c) (merged_ordered (front ++ c ∷ []) cs (moved front c cs s) (i + 1) (counted front c i l))
      (all_from_contains (λ x. All (T x) rest) left (λ x m. all_from_contains (T x) rest (λ z n.
      subst (λ q. R q z ≡ true) (is_left gone c x m).0 (next front c cs s i l z n)))))
      (all_from_contains (λ x. All (T x) (left ++ rest)) (puts i) (λ x m. all_from_contains (T x) (left ++ rest) (λ z n.
      let first : R x c ≡ true = (stands front (c ∷ cs) s x (subst (λ q. Contains (puts q) x) l m)).1 c (contains_here c cs) in
      elim (Contains-append_cases left rest z n) [
        | inl k ↦ subst (λ q. R x q ≡ true) (is_left gone c z k).0 first
        | inr k ↦ trans x c z first (next front c cs s i l z k)
      ])))
