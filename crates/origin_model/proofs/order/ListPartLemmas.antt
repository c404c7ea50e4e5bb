-- Lists and their parts: fronts and ends, and members of lists that are ordered.
use Rattle.origin_model.proofs.Words.{All, All-contains, All-tail, All-weaker, Bool, Contains, Contains-append_cases, Identifier, IsOrderedBy, List, [], all_pairs_before}
use Rattle.origin_model.proofs.Words.{all_pairs_after, all_pairs_head, all_pairs_tail, append-nil, contains_cases, contains_here, contains_middle_cases, contains_none, false}
use Rattle.origin_model.proofs.Words.{filter, inl, inr, refl, subst, sym, true, true≢false, ◌++◌, ◌∙◌, ◌∷◌, ◌≡◌, ◌≢◌, ◌⊎◌}
use Rattle.fugue_ids.proofs.ListLemmas.{all_pairs_across, all_pairs_append}

-- a list with a member is not empty
pub not_nil : (c : List Identifier) (u : Identifier) (more : List Identifier) → [] ≡ c ++ u ∷ more → ⊥
not_nil [] u more h = cc
not_nil (y ∷ c) u more h = cc

-- equal lists have equal first members
pub heads : (x y : Identifier) (xs ys : List Identifier) → x ∷ xs ≡ y ∷ ys → x ≡ y
heads x y xs ys e = cc

-- how a list with the last member e is split at u: u is that member, or stands before it
abbrev pub Split : List Identifier → Identifier → List Identifier → Identifier → List Identifier → Type 0
Split xs e c u more = ((more ≡ []) × (u ≡ e) × (xs ≡ c)) ⊎ ((m : List Identifier) × (xs ≡ c ++ u ∷ m) × (more ≡ m ++ e ∷ []))

-- a list with a last member, split
pub split_end : (xs c : List Identifier) (e u : Identifier) (more : List Identifier) → xs ++ e ∷ [] ≡ c ++ u ∷ more → Split xs e c u more
split_end [] [] e u more h = let a : u ≡ e = cc in let b : more ≡ [] = cc in inl (b, a, refl)
split_end (x ∷ xs) [] e u more h = let a : x ≡ u = cc in let b : more ≡ xs ++ e ∷ [] = cc in inr (xs, (λ i. a i ∷ xs), b)
split_end [] (y ∷ c) e u more h = absurd (not_nil c u more (cc))
split_end (x ∷ xs) (y ∷ c) e u more h =
    let a : x ≡ y = cc in
    let b : xs ++ e ∷ [] ≡ c ++ u ∷ more = cc in
    elim (split_end xs c e u more b) [
      | inl k ↦ inl (k.0, k.1, (λ i. a i ∷ k.2 i))
      | inr k ↦ inr (k.0, (λ i. a i ∷ k.1 i), k.2)
    ]

-- no list is longer than itself
pub not_longer : (xs : List Identifier) (v : Identifier) (m : List Identifier) → xs ≡ xs ++ v ∷ m → ⊥
not_longer [] v m e = not_nil [] v m e
not_longer (x ∷ xs) v m e = not_longer xs v m (cc)

-- a list with a last member is not empty
pub no_end : (c : List Identifier) (v : Identifier) → c ++ v ∷ [] ≡ [] → ⊥
no_end c v e = not_nil c v [] (sym e)

-- an empty list has no member
pub no_member : (xs : List Identifier) (x : Identifier) → xs ≡ [] → Contains xs x → ⊥
no_member xs x e m = contains_none x (subst (λ l. Contains l x) e m)

-- a list without members is empty
pub empty_from : (xs : List Identifier) → ((e : Identifier) → Contains xs e → ⊥) → xs ≡ []
empty_from [] f = refl
empty_from (x ∷ xs) f = absurd (f x (contains_here x xs))

-- a member other than the first is in the rest
pub in_rest : (e : Identifier) (es : List Identifier) (x : Identifier) → x ≢ e → Contains (e ∷ es) x → Contains es x
in_rest e es x n m = elim (contains_cases e es x m) [ inl d ↦ absurd (n (sym d)) | inr k ↦ k ]

-- a filter keeps what passes
pub filter_yes : (g : Identifier → Bool) (y : Identifier) (ys : List Identifier) → g y ≡ true → filter g (y ∷ ys) ≡ y ∷ filter g ys
filter_yes g y ys h = rw (h, filter)

-- and drops what does not
pub filter_no : (g : Identifier → Bool) (y : Identifier) (ys : List Identifier) → g y ≡ false → filter g (y ∷ ys) ≡ filter g ys
filter_no g y ys h = rw (h, filter)

-- lists in the order R
module _ (R : Identifier → Identifier → Bool) where
  -- one member stands before each that follows it
  pub first_before : (x y : Identifier) (ys : List Identifier) → IsOrderedBy R (x ∷ ys) → Contains ys y → R x y ≡ true
  first_before x y ys o m = All-contains (λ z. R x z ≡ true) ys y (all_pairs_head (λ a b. R a b ≡ true) x ys o) m

  -- a member of the front stands before each of the rest
  pub front_before : (xs ys : List Identifier) (x y : Identifier) → IsOrderedBy R (xs ++ ys) → Contains xs x → Contains ys y → R x y ≡ true
  front_before xs ys x y o m n = All-contains (λ z. R x z ≡ true) ys y (All-contains (λ a. All (λ z. R a z ≡ true) ys) xs x (all_pairs_across (λ a b. R a b ≡ true) xs ys o) m) n

  -- each member is the last one or stands before it
  pub last_of : (front : List Identifier) (v r : Identifier) → IsOrderedBy R (front ++ v ∷ []) → Contains (front ++ v ∷ []) r → (r ≡ v) ⊎ (R r v ≡ true)
  last_of front v r o m =
      elim (contains_middle_cases front v [] r m) [
        | inl d ↦ inl (sym d)
        | inr k ↦ inr (front_before front (v ∷ []) r v o (subst (λ l. Contains l r) (append-nil front) k) (contains_here v []))
      ]

  -- each member is the first one or stands after it
  pub first_of : (v r : Identifier) (rest : List Identifier) → IsOrderedBy R (v ∷ rest) → Contains (v ∷ rest) r → (r ≡ v) ⊎ (R v r ≡ true)
  first_of v r rest o m = elim (contains_cases v rest r m) [ inl d ↦ inl (sym d) | inr k ↦ inr (first_before v r rest o k) ]

  -- one member less
  pub ordered_out : (xs ys : List Identifier) (x : Identifier) → IsOrderedBy R (xs ++ x ∷ ys) → IsOrderedBy R (xs ++ ys)
  ordered_out xs ys x o =
      let T : Identifier → Identifier → Type 0 = λ a b. R a b ≡ true in
      all_pairs_append T xs ys (all_pairs_before T xs (x ∷ ys) o) (all_pairs_tail T x ys (all_pairs_after T xs (x ∷ ys) o))
      (All-weaker (λ z. All (T z) (x ∷ ys)) (λ z. All (T z) ys) (λ z. All-tail (T z) x ys) xs (all_pairs_across T xs (x ∷ ys) o))

  -- a member of a list in a strict order stands in it once
  pub once_mid : (irrefl : (a : Identifier) → R a a ≡ false) (xs ys : List Identifier) (x : Identifier) → IsOrderedBy R (xs ++ x ∷ ys) → Contains (xs ++ ys) x → ⊥
  once_mid irrefl xs ys x o m =
      elim (Contains-append_cases xs ys x m) [
        | inl k ↦ true≢false (sym (front_before xs (x ∷ ys) x x o k (contains_here x ys)) ∙ irrefl x)
        | inr k ↦ true≢false (sym (first_before x x ys (all_pairs_after (λ a b. R a b ≡ true) xs (x ∷ ys) o) k) ∙ irrefl x)
      ]
