-- Lists whose members stand in a transitive order: one more member goes in after those that stand before it, and two
-- such lists with the same members are equal.
use Rattle.origin_model.proofs.Words.{All, All-cons, All-head, All-nil, All-tail, All-weaker, Bool, Contains, Identifier, IsOrderedBy, List, [], all_insert, all_pairs_head}
use Rattle.origin_model.proofs.Words.{all_pairs_nil, all_pairs_tail, ap, arith, cases_Bool, cond, contains_cases, contains_here, contains_none, contains_there, count_by, drop}
use Rattle.origin_model.proofs.Words.{false, false_from_ne_true, inl, inr, placed, refl, subst, suc, sym, take, true, true≢false, ◌++◌, ◌+◌, ◌∙◌, ◌∷◌, ◌≡◌, ◌≢◌}
use Rattle.std.proofs.lemmas.List.Kept.{AllPairs-cons}
use Rattle.std.proofs.lemmas.List.Sums.{sum_by-cons}
use Rattle.origin_model.proofs.order.ListPartLemmas.{first_before, in_rest}

-- a first member that passes counts one more
pub count-yes : (q : Identifier → Bool) (e : Identifier) (es : List Identifier) → q e ≡ true → count_by q (e ∷ es) ≡ suc (count_by q es)
count-yes q e es h = sum_by-cons (λ x. cond (q x) 1 0) e es ∙ ap (λ b. cond b 1 0 + count_by q es) h ∙ omega arith

-- a first member that fails counts nothing
pub count-no : (q : Identifier → Bool) (e : Identifier) (es : List Identifier) → q e ≡ false → count_by q (e ∷ es) ≡ count_by q es
count-no q e es h = sum_by-cons (λ x. cond (q x) 1 0) e es ∙ ap (λ b. cond b 1 0 + count_by q es) h ∙ omega arith

-- a member that stands before the new one stays first
pub placed-behind : (q : Identifier → Bool) (e : Identifier) (es : List Identifier) (x : Identifier) → q e ≡ true → placed q (e ∷ es) x ≡ e ∷ placed q es x
placed-behind q e es x h = ap (λ k. take k (e ∷ es) ++ x ∷ drop k (e ∷ es)) (count-yes q e es h)

-- where no member passes, the count is 0
pub none_pass : (q : Identifier → Bool) (es : List Identifier) → All (λ e. q e ≡ false) es → count_by q es ≡ 0
none_pass q [] h = refl
none_pass q (e ∷ es) h = count-no q e es (All-head (λ e. q e ≡ false) e es h) ∙ none_pass q es (All-tail (λ e. q e ≡ false) e es h)

-- where no member stands before it, the new one goes first
pub placed-first : (q : Identifier → Bool) (es : List Identifier) (x : Identifier) → All (λ e. q e ≡ false) es → placed q es x ≡ x ∷ es
placed-first q es x h = ap (λ k. take k es ++ x ∷ drop k es) (none_pass q es h)

-- a list in a transitive order
module _ (R : Identifier → Identifier → Bool) (trans : (a b c : Identifier) → R a b ≡ true → R b c ≡ true → R a c ≡ true) where
  -- each pair in order
  abbrev T : Identifier → Identifier → Type 0
  T a b = R a b ≡ true

  -- where the first member is not before x, none is
  pub none_before : (x e : Identifier) (es : List Identifier) → R e x ≡ false → IsOrderedBy R (e ∷ es) → All (λ y. R y x ≡ false) (e ∷ es)
  none_before x e es h o =
      All-cons (λ y. R y x ≡ false) e es h
      (All-weaker (T e) (λ y. R y x ≡ false) (λ y k. false_from_ne_true (R y x) (λ t. true≢false (sym (trans e y x k t) ∙ h))) es (all_pairs_head T e es o))

  -- the list stays in order as one more member is placed
  pub placed-ordered : (x : Identifier) (es : List Identifier) → All (λ e. R e x ≡ false → R x e ≡ true) es → IsOrderedBy R es → IsOrderedBy R (placed (λ e. R e x) es x)
  placed-ordered x [] t o = AllPairs-cons T x [] (All-nil (T x)) (all_pairs_nil T)
  placed-ordered x (e ∷ es) t o =
      let first = all_pairs_head T e es o in
      let Before : Identifier → Type 0 = λ e. R e x ≡ false → R x e ≡ true in
      elim (cases_Bool (R e x)) [
        | inl h ↦ subst (IsOrderedBy R) (sym (placed-behind (λ y. R y x) e es x h))
            (AllPairs-cons T e (placed (λ y. R y x) es x) (all_insert (T e) es (count_by (λ y. R y x) es) x h first)
            (placed-ordered x es (All-tail Before e es t) (all_pairs_tail T e es o)))
        | inr h ↦
            let xe : R x e ≡ true = All-head Before e es t h in
            subst (IsOrderedBy R) (sym (placed-first (λ y. R y x) (e ∷ es) x (none_before x e es h o)))
            (AllPairs-cons T x (e ∷ es) (All-cons (T x) e es xe (All-weaker (T e) (T x) (λ y k. trans x e y xe k) es first)) o)
      ]

-- a list in one order is in every order that agrees on its members
pub Ordered-agree : (R S : Identifier → Identifier → Bool) (P : Identifier → Type 0) → ((a b : Identifier) → P a → P b → R a b ≡ S a b)
    → (xs : List Identifier) → All P xs → IsOrderedBy R xs → IsOrderedBy S xs
Ordered-agree R S P agree xs p o = λ i j d before within. sym (agree _ _ (p i d (omega (arith, before, within))) (p j d within)) ∙ o i j d before within

-- in a strict order
module _ (R : Identifier → Identifier → Bool) (irrefl : (a : Identifier) → R a a ≡ false) (trans : (a b c : Identifier) → R a b ≡ true → R b c ≡ true → R a c ≡ true) where
  -- no two members stand before each other
  pub no_loop : (a b : Identifier) → R a b ≡ true → R b a ≡ true → ⊥
  no_loop a b h k = true≢false (sym (trans a b a h k) ∙ irrefl a)

  -- the first member is not in the rest
  tail_member : (x z : Identifier) (xs : List Identifier) → IsOrderedBy R (x ∷ xs) → Contains xs z → z ≢ x
  tail_member x z xs v m e = true≢false (sym (first_before R x z xs v m) ∙ ap (R x) e ∙ irrefl x)

  -- two lists with the same members begin with the same one
  same_head : (x y : Identifier) (xs ys : List Identifier) → IsOrderedBy R (x ∷ xs) → IsOrderedBy R (y ∷ ys) → Contains (y ∷ ys) x → Contains (x ∷ xs) y → x ≡ y
  same_head x y xs ys v w p q =
      elim (contains_cases y ys x p) [
        | inl e ↦ sym e
        | inr j ↦ elim (contains_cases x xs y q) [ inl e ↦ e | inr k ↦ absurd (no_loop x y (first_before R x y xs v k) (first_before R y x ys w j)) ]
      ]

  -- two lists in a strict order with the same members are equal
  pub same_ordered : (xs ys : List Identifier) → IsOrderedBy R xs → IsOrderedBy R ys → ((x : Identifier) → Contains xs x → Contains ys x)
      → ((x : Identifier) → Contains ys x → Contains xs x) → xs ≡ ys
  same_ordered [] [] v w f g = refl
  same_ordered [] (y ∷ ys) v w f g = absurd (contains_none y (g y (contains_here y ys)))
  same_ordered (x ∷ xs) [] v w f g = absurd (contains_none x (f x (contains_here x xs)))
  same_ordered (x ∷ xs) (y ∷ ys) v w f g =
      let T : Identifier → Identifier → Type 0 = λ a b. R a b ≡ true in
      let e : x ≡ y = same_head x y xs ys v w (f x (contains_here x xs)) (g y (contains_here y ys)) in
      let rest : xs ≡ ys = same_ordered xs ys (all_pairs_tail T x xs v) (all_pairs_tail T y ys w)
      (λ z m. in_rest y ys z (λ d. tail_member x z xs v m (d ∙ sym e)) (f z (contains_there x xs z m)))
      (λ z m. in_rest x xs z (λ d. tail_member y z ys w m (d ∙ e)) (g z (contains_there y ys z m))) in
      λ i. e i ∷ rest i
