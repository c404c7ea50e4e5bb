-- What std's lemmas do not say of `All`, `Contains`, `AllPairs` and `position_or_len`.
-- std has `All-nil`, `All-cons`, `All-head`, `All-tail`, `All-append`, `All-map`, `All-filter`, `All-weaker`, `All-contains`, `All-get_or`,
-- `All-from_recursion`, `recursion_from_All`, `Contains-get_or` and `Contains-append_left`, `_right`, `_cases`
-- (`lemmas.List.Elements`), and `AllPairs-cons` (`lemmas.List.Kept`).
use Rattle.std.specs.Prelude.{[], Bool, cond, false, filter, length, List, map, nat_eq, refl, slice_get, Some, suc, true, zero, ℕ, ◌&&◌, ◌++◌, ◌+◌, ◌<◌, ◌∷◌, ◌≡◌, ◌⊎◌}
use Rattle.std.specs.Cmp.Lexicographic.{pointwise}
use Rattle.std.specs.List.{All, AllPairs, Contains, insert}
use Rattle.std.proofs.Common.{ap, arith, get_or, inl, inr, subst, sym, take, drop, ◌∙◌}
use Rattle.std.proofs.lemmas.List.{take-append-drop}
use Rattle.std.proofs.lemmas.Bool.{and_from, cases_Bool, eq-eqb, true≢false}
use Rattle.std.proofs.lemmas.List.Elements.{All-append, All-contains, All-contains_itself, All-cons, All-filter, All-map, filter_passes, All-head, All-tail, All-nil}
use Rattle.std.proofs.lemmas.List.Elements.{Contains-append_cases, Contains-append_left, Contains-append_right, Contains-get_or}
use Rattle.std.proofs.lemmas.List.Kept.{AllPairs-cons}

module _ {X : Type 0} where
  -- the empty list has no member
  pub contains_none : (x : X) → Contains [] x → ⊥
  contains_none x c = omega (arith, c.1)

  pub contains_here : (x : X) (xs : List X) → Contains (x ∷ xs) x
  contains_here x xs = (0, omega arith, refl)

  pub contains_there : (y : X) (xs : List X) (x : X) → Contains xs x → Contains (y ∷ xs) x
  contains_there y xs x c = (suc c.0, omega (arith, c.1), c.2)

  pub contains_cases : (y : X) (xs : List X) (x : X) → Contains (y ∷ xs) x → (y ≡ x) ⊎ Contains xs x
  contains_cases y xs x c = by_place c.0 c.1 c.2
    where
      by_place : (k : ℕ) → k < suc (length xs) → get_or (y ∷ xs) k x ≡ x → (y ≡ x) ⊎ Contains xs x
      by_place zero within at = inl at
      by_place (suc k) within at = inr (k, omega arith, at)

  -- the member between two parts
  pub contains_middle : (xs : List X) (x : X) (ys : List X) → Contains (xs ++ x ∷ ys) x
  contains_middle xs x ys = Contains-append_right xs (x ∷ ys) x (contains_here x ys)

  -- a member of two parts is one still with another between them
  pub contains_around : (xs : List X) (y : X) (ys : List X) (x : X) → Contains (xs ++ ys) x → Contains (xs ++ y ∷ ys) x
  contains_around xs y ys x c = elim (Contains-append_cases xs ys x c) [
    | inl before ↦ Contains-append_left xs (y ∷ ys) x before
    | inr behind ↦ Contains-append_right xs (y ∷ ys) x (contains_there y ys x behind)
  ]

  pub contains_middle_cases : (xs : List X) (y : X) (ys : List X) (x : X) → Contains (xs ++ y ∷ ys) x → (y ≡ x) ⊎ Contains (xs ++ ys) x
  contains_middle_cases xs y ys x c = elim (Contains-append_cases xs (y ∷ ys) x c) [
    | inl before ↦ inr (Contains-append_left xs ys x before)
    | inr rest ↦ elim (contains_cases y ys x rest) [ inl at ↦ inl at | inr behind ↦ inr (Contains-append_right xs ys x behind) ]
  ]

  pub contains_inserted : (xs : List X) (i : ℕ) (x : X) → Contains (insert xs i x) x
  contains_inserted xs i x = contains_middle (take i xs) x (drop i xs)

  pub contains_insert : (xs : List X) (i : ℕ) (y x : X) → Contains xs x → Contains (insert xs i y) x
  contains_insert xs i y x c = contains_around (take i xs) y (drop i xs) x (subst (λ l. Contains l x) (sym (take-append-drop i xs)) c)

  pub contains_insert_cases : (xs : List X) (i : ℕ) (y x : X) → Contains (insert xs i y) x → (y ≡ x) ⊎ Contains xs x
  contains_insert_cases xs i y x c = elim (contains_middle_cases (take i xs) y (drop i xs) x c) [
    | inl at ↦ inl at
    | inr other ↦ inr (subst (λ l. Contains l x) (take-append-drop i xs) other)
  ]

  -- what holds of each member holds of all
  pub all_from_contains : (P : X → Type 0) (xs : List X) → ((x : X) → Contains xs x → P x) → All P xs
  all_from_contains P xs each = λ k d within. each (get_or xs k d) (Contains-get_or xs k d within)

  -- what follows at each member
  pub all_weaker_at : (P Q : X → Type 0) (xs : List X) → ((x : X) → Contains xs x → P x → Q x) → All P xs → All Q xs
  all_weaker_at P Q xs so all = all_from_contains Q xs (λ x c. so x c (All-contains P xs x all c))

  pub all_before : (P : X → Type 0) (xs ys : List X) → All P (xs ++ ys) → All P xs
  all_before P xs ys all = all_from_contains P xs (λ x c. All-contains P (xs ++ ys) x all (Contains-append_left xs ys x c))

  pub all_after : (P : X → Type 0) (xs ys : List X) → All P (xs ++ ys) → All P ys
  all_after P xs ys all = all_from_contains P ys (λ x c. All-contains P (xs ++ ys) x all (Contains-append_right xs ys x c))

  pub all_insert : (P : X → Type 0) (xs : List X) (i : ℕ) (x : X) → P x → All P xs → All P (insert xs i x)
  all_insert P xs i x p all = all_from_contains P (insert xs i x) (λ y c. elim (contains_insert_cases xs i x y c) [
    | inl at ↦ subst P at p
    | inr other ↦ All-contains P xs y all other
  ])

  pub all_pairs_nil : (R : X → X → Type 0) → AllPairs R []
  all_pairs_nil R = λ i j d before within. absurd (omega (arith, within))

  -- the first and each later one
  pub all_pairs_head : (R : X → X → Type 0) (x : X) (xs : List X) → AllPairs R (x ∷ xs) → All (R x) xs
  all_pairs_head R x xs pairs = λ k d within. pairs 0 (suc k) d (omega arith) (omega (arith, within))

  pub all_pairs_tail : (R : X → X → Type 0) (x : X) (xs : List X) → AllPairs R (x ∷ xs) → AllPairs R xs
  all_pairs_tail R x xs pairs = λ i j d before within. pairs (suc i) (suc j) d (omega (arith, before)) (omega (arith, within))

  pub all_pairs_weaker : (R S : X → X → Type 0) → ((x y : X) → R x y → S x y) → (xs : List X) → AllPairs R xs → AllPairs S xs
  all_pairs_weaker R S so xs pairs = λ i j d before within. so (get_or xs i d) (get_or xs j d) (pairs i j d before within)

  pub all_pairs_append : (R : X → X → Type 0) (xs ys : List X) → AllPairs R xs → AllPairs R ys → All (λ x. All (R x) ys) xs → AllPairs R (xs ++ ys)
  all_pairs_append R [] ys front back across = back
  all_pairs_append R (x ∷ xs) ys front back across =
      AllPairs-cons R x (xs ++ ys)
      (All-append (R x) xs ys (all_pairs_head R x xs front) (All-head (λ y. All (R y) ys) x xs across))
      (all_pairs_append R xs ys (all_pairs_tail R x xs front) back (All-tail (λ y. All (R y) ys) x xs across))

  pub all_pairs_before : (R : X → X → Type 0) (xs ys : List X) → AllPairs R (xs ++ ys) → AllPairs R xs
  all_pairs_before R [] ys pairs = all_pairs_nil R
  all_pairs_before R (x ∷ xs) ys pairs =
      AllPairs-cons R x xs (all_before (R x) xs ys (all_pairs_head R x (xs ++ ys) pairs)) (all_pairs_before R xs ys (all_pairs_tail R x (xs ++ ys) pairs))

  pub all_pairs_after : (R : X → X → Type 0) (xs ys : List X) → AllPairs R (xs ++ ys) → AllPairs R ys
  all_pairs_after R [] ys pairs = pairs
  all_pairs_after R (x ∷ xs) ys pairs = all_pairs_after R xs ys (all_pairs_tail R x (xs ++ ys) pairs)

  -- each of the front and each after it
  pub all_pairs_across : (R : X → X → Type 0) (xs ys : List X) → AllPairs R (xs ++ ys) → All (λ x. All (R x) ys) xs
  all_pairs_across R [] ys pairs = All-nil (λ x. All (R x) ys)
  all_pairs_across R (x ∷ xs) ys pairs =
      All-cons (λ y. All (R y) ys) x xs (all_after (R x) xs ys (all_pairs_head R x (xs ++ ys) pairs)) (all_pairs_across R xs ys (all_pairs_tail R x (xs ++ ys) pairs))

  -- another between two parts
  pub all_pairs_middle : (R : X → X → Type 0) (xs : List X) (x : X) (ys : List X) → AllPairs R (xs ++ ys) → All (λ y. R y x) xs → All (R x) ys
      → AllPairs R (xs ++ x ∷ ys)
  all_pairs_middle R xs x ys pairs before behind =
      all_pairs_append R xs (x ∷ ys) (all_pairs_before R xs ys pairs) (AllPairs-cons R x ys behind (all_pairs_after R xs ys pairs))
      (all_from_contains (λ y. All (R y) (x ∷ ys)) xs (λ y c.
      All-cons (R y) x ys (All-contains (λ z. R z x) xs y before c) (All-contains (λ z. All (R z) ys) xs y (all_pairs_across R xs ys pairs) c)))

  pub all_pairs_insert : (R : X → X → Type 0) (xs : List X) (i : ℕ) (x : X) → AllPairs R xs → All (λ y. R y x) (take i xs) → All (R x) (drop i xs)
      → AllPairs R (insert xs i x)
  all_pairs_insert R xs i x pairs = all_pairs_middle R (take i xs) x (drop i xs) (subst (AllPairs R) (sym (take-append-drop i xs)) pairs)

module _ {X Y : Type 0} (f : X → Y) where
  pub contains_map : (xs : List X) (x : X) → Contains xs x → Contains (map f xs) (f x)
  contains_map [] x c = absurd (contains_none x c)
  contains_map (y ∷ xs) x c = elim (contains_cases y xs x c) [
    | inl at ↦ subst (λ z. Contains (map f (y ∷ xs)) (f z)) at (contains_here (f y) (map f xs))
    | inr behind ↦ contains_there (f y) (map f xs) (f x) (contains_map xs x behind)
  ]

  -- a member of the map comes from one of the list
  pub contains_map_from : (xs : List X) (y : Y) → Contains (map f xs) y → (x : X) × Contains xs x × (f x ≡ y)
  contains_map_from [] y c = absurd (contains_none y c)
  contains_map_from (x ∷ xs) y c = elim (contains_cases (f x) (map f xs) y c) [
    | inl at ↦ (x, contains_here x xs, at)
    | inr behind ↦ let p = contains_map_from xs y behind in (p.0, contains_there x xs p.0 p.1, p.2)
  ]

  pub all_from_map : (P : Y → Type 0) (xs : List X) → All P (map f xs) → All (λ x. P (f x)) xs
  all_from_map P xs all = all_from_contains (λ x. P (f x)) xs (λ x c. All-contains P (map f xs) (f x) all (contains_map xs x c))

  pub all_pairs_map : (R : Y → Y → Type 0) (xs : List X) → AllPairs (λ x y. R (f x) (f y)) xs → AllPairs R (map f xs)
  all_pairs_map R [] pairs = all_pairs_nil R
  all_pairs_map R (x ∷ xs) pairs =
      AllPairs-cons R (f x) (map f xs)
      (All-map (R (f x)) f xs (all_pairs_head (λ y z. R (f y) (f z)) x xs pairs)) (all_pairs_map R xs (all_pairs_tail (λ y z. R (f y) (f z)) x xs pairs))

  pub all_pairs_from_map : (R : Y → Y → Type 0) (xs : List X) → AllPairs R (map f xs) → AllPairs (λ x y. R (f x) (f y)) xs
  all_pairs_from_map R [] pairs = all_pairs_nil (λ x y. R (f x) (f y))
  all_pairs_from_map R (x ∷ xs) pairs =
      AllPairs-cons (λ y z. R (f y) (f z)) x xs
      (all_from_map (R (f x)) xs (all_pairs_head R (f x) (map f xs) pairs)) (all_pairs_from_map R xs (all_pairs_tail R (f x) (map f xs) pairs))

module _ {X : Type 0} (p : X → Bool) where
  pub contains_filter : (xs : List X) (x : X) → Contains xs x → p x ≡ true → Contains (filter p xs) x
  contains_filter [] x c passes = absurd (contains_none x c)
  contains_filter (y ∷ xs) x c passes = elim (cases_Bool (p y)) [
    | inl e ↦ rw e (elim (contains_cases y xs x c) [
      | inl at ↦ subst (Contains (y ∷ filter p xs)) at (contains_here y (filter p xs))
      | inr behind ↦ contains_there y (filter p xs) x (contains_filter xs x behind passes)
    ])
    | inr e ↦ rw e (elim (contains_cases y xs x c) [
      | inl at ↦ absurd (true≢false (sym passes ∙ ap p (sym at) ∙ e))
      | inr behind ↦ contains_filter xs x behind passes
    ])
  ]

  -- what a filter kept stood there, and passes
  pub contains_filter_from : (xs : List X) (x : X) → Contains (filter p xs) x → Contains xs x × (p x ≡ true)
  contains_filter_from xs x c = (kept xs c, All-contains (λ y. p y ≡ true) (filter p xs) x (filter_passes p xs) c)
    where
      kept : (ys : List X) → Contains (filter p ys) x → Contains ys x
      kept ys = All-contains (Contains ys) (filter p ys) x (All-filter p (Contains ys) ys (All-contains_itself ys))

  -- what holds of all that a filter keeps holds where the test passes
  pub all_from_filter : (P : X → Type 0) (xs : List X) → All P (filter p xs) → All (λ x. p x ≡ true → P x) xs
  all_from_filter P xs all =
      all_from_contains (λ x. p x ≡ true → P x) xs (λ x c passes. All-contains P (filter p xs) x all (contains_filter xs x c passes))

module _ {X : Type 0} (f g : X → Bool) where
  -- what passes one test and then another passes both
  pub filter-both : (xs : List X) → filter g (filter f xs) ≡ filter (λ x. f x && g x) xs
  filter-both [] = refl
  filter-both (x ∷ xs) =
      let both : List X = filter (λ y. f y && g y) xs in
      elim (f x) as (λ (b : Bool). filter g (cond b (x ∷ filter f xs) (filter f xs)) ≡ cond (b && g x) (x ∷ both) both) [
        | true ↦ ap (λ (t : List X). cond (g x) (x ∷ t) t) (filter-both xs)
        | false ↦ filter-both xs
      ]

-- what stands in the first of two lists, in the second, and at the end
pub slice_get-append : {X : Type 0} (xs ys : List X) (k : ℕ) → k < length xs → slice_get (xs ++ ys) k ≡ slice_get xs k
slice_get-append [] ys k h = absurd (omega (arith, h))
slice_get-append (x ∷ xs) ys zero h = refl
slice_get-append (x ∷ xs) ys (suc k) h = slice_get-append xs ys k (omega (arith, h))

pub slice_get-behind : {X : Type 0} (xs ys : List X) (k : ℕ) → slice_get (xs ++ ys) (length xs + k) ≡ slice_get ys k
slice_get-behind [] ys k = let e : 0 + k ≡ k = omega arith in ap (slice_get ys) e
slice_get-behind (x ∷ xs) ys k = let e : suc (length xs) + k ≡ suc (length xs + k) = omega arith in ap (slice_get (x ∷ xs ++ ys)) e ∙ slice_get-behind xs ys k

pub slice_get-seam : {X : Type 0} (xs : List X) (x : X) → slice_get (xs ++ x ∷ []) (length xs) ≡ Some x
slice_get-seam [] x = refl
slice_get-seam (y ∷ ys) x = slice_get-seam ys x

-- a list of numbers is the same as itself, number by number
pub pointwise-same : (xs : List ℕ) → pointwise nat_eq xs xs ≡ true
pointwise-same [] = refl
pointwise-same (x ∷ xs) = and_from (nat_eq x x) (pointwise nat_eq xs xs) (eq-eqb x x refl) (pointwise-same xs)
