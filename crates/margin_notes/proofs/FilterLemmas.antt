-- Lists of identifiers that tests keep a part of.
use Rattle.fugue_ids.proofs.ListLemmas.{filter-both}
use Rattle.margin_notes.proofs.Words.{All, All-head, All-tail, All-weaker, AllPairs, Bool, Identifier, List, [], all_pairs_head, all_pairs_tail, ap, cases_Bool, cond, drop, false}
use Rattle.margin_notes.proofs.Words.{filter, inl, inr, length, not, refl, subst, sym, take, true, true≢false, ◌∙◌, ◌∷◌, ◌≡◌}
use Rattle.origin_model.proofs.edits.SplitLemmas.{filter_all}
use Rattle.std.proofs.Math.Bool.{and_comm}

-- tests that agree on each member keep the same members
pub filter-agree : (f g : Identifier → Bool) (xs : List Identifier) → All (λ x. f x ≡ g x) xs → filter f xs ≡ filter g xs
filter-agree f g [] a = refl
filter-agree f g (x ∷ xs) a =
    let rest : filter f xs ≡ filter g xs = filter-agree f g xs (All-tail (λ y. f y ≡ g y) x xs a) in
    λ i. cond (All-head (λ y. f y ≡ g y) x xs a i) (x ∷ rest i) (rest i)

-- two tests keep the same members in either order
pub filter-swap : (f g : Identifier → Bool) (xs : List Identifier) → filter f (filter g xs) ≡ filter g (filter f xs)
filter-swap f g xs = filter-both g f xs ∙ (λ i. filter (λ x. and_comm (g x) (f x) i) xs) ∙ sym (filter-both f g xs)

-- the members that pass stand before the others
abbrev pub IsCut : (Identifier → Bool) → List Identifier → Type 0
IsCut q xs = AllPairs (λ x y. q y ≡ true → q x ≡ true) xs

-- after one that fails all fail
all_fail : (q : Identifier → Bool) (x : Identifier) (xs : List Identifier) → IsCut q (x ∷ xs) → q x ≡ false → All (λ y. q y ≡ false) xs
all_fail q x xs c k =
    All-weaker (λ y. q y ≡ true → q x ≡ true) (λ y. q y ≡ false)
    (λ y f. elim (cases_Bool (q y)) [ inl t ↦ absurd (true≢false (sym (f t) ∙ k)) | inr t ↦ t ]) xs (all_pairs_head (λ u v. q v ≡ true → q u ≡ true) x xs c)

-- a test that all fail keeps none
filter-none : (q : Identifier → Bool) (xs : List Identifier) → All (λ y. q y ≡ false) xs → filter q xs ≡ []
filter-none q [] a = refl
filter-none q (x ∷ xs) a =
    ap (λ b. cond b (x ∷ filter q xs) (filter q xs)) (All-head (λ y. q y ≡ false) x xs a) ∙ filter-none q xs (All-tail (λ y. q y ≡ false) x xs a)

-- the members that pass are the first ones
pub front_of_cut : (q : Identifier → Bool) (xs : List Identifier) → IsCut q xs → filter q xs ≡ take (length (filter q xs)) xs
front_of_cut q [] c = refl
front_of_cut q (x ∷ xs) c =
    let rest : List Identifier = filter q xs in
    let goal : Bool → Type 0 = λ b. cond b (x ∷ rest) rest ≡ take (length (cond b (x ∷ rest) rest)) (x ∷ xs) in
    elim (cases_Bool (q x)) [
      | inl k ↦ subst goal (sym k) (ap (λ t. x ∷ t) (front_of_cut q xs (all_pairs_tail (λ u v. q v ≡ true → q u ≡ true) x xs c)))
      | inr k ↦ subst goal (sym k) (subst (λ l. l ≡ take (length l) (x ∷ xs)) (sym (filter-none q xs (all_fail q x xs c k))) refl)
    ]

-- and those that fail the rest
pub back_of_cut : (q : Identifier → Bool) (xs : List Identifier) → IsCut q xs → filter (λ x. not (q x)) xs ≡ drop (length (filter q xs)) xs
back_of_cut q [] c = refl
back_of_cut q (x ∷ xs) c =
    let rest : List Identifier = filter q xs in
    let others : List Identifier = filter (λ y. not (q y)) xs in
    let goal : Bool → Type 0 = λ b. cond (not b) (x ∷ others) others ≡ drop (length (cond b (x ∷ rest) rest)) (x ∷ xs) in
    elim (cases_Bool (q x)) [
      | inl k ↦ subst goal (sym k) (back_of_cut q xs (all_pairs_tail (λ u v. q v ≡ true → q u ≡ true) x xs c))
      | inr k ↦
          let fail : All (λ y. q y ≡ false) xs = all_fail q x xs c k in
          subst goal (sym k) (ap (λ t. x ∷ t) (filter_all (λ y. not (q y)) xs (All-weaker (λ y. q y ≡ false) (λ y. not (q y) ≡ true) (λ y e. ap not e) xs fail))
          ∙ subst (λ l. x ∷ xs ≡ drop (length l) (x ∷ xs)) (sym (filter-none q xs fail)) refl)
    ]
