-- The comparison of two chains at the first place where they differ is a strict order where the order at the fork is
-- one, and total where that is total on the members.
use Rattle.origin_model.proofs.Words.{All, All-head, All-tail, Bool, Identifier, List, [], ap, cases_id, chain_before, false, false≢true, id_eq, id_eq-refl, inl, inr, ne-id_eq}
use Rattle.origin_model.proofs.Words.{not, refl, subst, sym, true, true≢false, ◌∙◌, ◌∷◌, ◌≡◌, ◌≢◌}
use Rattle.std.proofs.lemmas.Bool.{not-false}

-- a test does not hold and fail
both_ways : (f : Bool) → f ≡ true → not f ≡ true → ⊥
both_ways true h k = false≢true k
both_ways false h k = false≢true h

-- the comparison, by the order R at the fork
module _ (f : Bool) (R : Identifier → Identifier → Bool) where
  -- a common first member is passed
  pub chain_before-same : (a : Identifier) (xs ys : List Identifier) → chain_before f R (a ∷ xs) (a ∷ ys) ≡ chain_before f R xs ys
  chain_before-same a xs ys = rw (id_eq-refl a, chain_before)

  -- at the first difference the order at the fork decides
  pub chain_before-fork : (a b : Identifier) (xs ys : List Identifier) → a ≢ b → chain_before f R (a ∷ xs) (b ∷ ys) ≡ R a b
  chain_before-fork a b xs ys n = let e : id_eq a b ≡ false = ne-id_eq a b n in rw (e, chain_before)

  -- no chain stands before itself
  pub chain_before-irrefl : (xs : List Identifier) → chain_before f R xs xs ≡ false
  chain_before-irrefl [] = refl
  chain_before-irrefl (a ∷ xs) = chain_before-same a xs xs ∙ chain_before-irrefl xs

  module _ (irrefl : (a : Identifier) → R a a ≡ false) (trans : (a b c : Identifier) → R a b ≡ true → R b c ≡ true → R a c ≡ true) where
    -- two forks at one place
    fork-trans : (a b c : Identifier) (xs ys zs : List Identifier) → a ≢ b → b ≢ c → R a b ≡ true → R b c ≡ true → chain_before f R (a ∷ xs) (c ∷ zs) ≡ true
    fork-trans a b c xs ys zs m n h k =
        elim (cases_id a c) [
          | inl e ↦ absurd (true≢false (sym (trans a b a h (subst (λ x. R b x ≡ true) (sym e) k)) ∙ irrefl a))
          | inr d ↦ chain_before-fork a c xs zs d ∙ trans a b c h k
        ]

    -- the comparison is transitive where the order at the fork is
    pub chain_before-trans : (xs ys zs : List Identifier) → chain_before f R xs ys ≡ true → chain_before f R ys zs ≡ true → chain_before f R xs zs ≡ true
    chain_before-trans [] [] zs h k = absurd (false≢true h)
    chain_before-trans [] (b ∷ ys) [] h k = absurd (both_ways f h k)
    chain_before-trans [] (b ∷ ys) (c ∷ zs) h k = h
    chain_before-trans (a ∷ xs) [] [] h k = h
    chain_before-trans (a ∷ xs) [] (c ∷ zs) h k = absurd (both_ways f k h)
    chain_before-trans (a ∷ xs) (b ∷ ys) [] h k = k
    chain_before-trans (a ∷ xs) (b ∷ ys) (c ∷ zs) h k =
        elim (cases_id a b) [
          | inl e ↦ elim (cases_id b c) [
            | inl d ↦ subst (λ x. chain_before f R (x ∷ xs) (c ∷ zs) ≡ true) (sym e)
                (subst (λ x. chain_before f R (b ∷ xs) (x ∷ zs) ≡ true) d
                (chain_before-same b xs zs
                ∙ chain_before-trans xs ys zs
                (sym (chain_before-same b xs ys) ∙ subst (λ x. chain_before f R (x ∷ xs) (b ∷ ys) ≡ true) e h)
                (sym (chain_before-same b ys zs) ∙ subst (λ x. chain_before f R (b ∷ ys) (x ∷ zs) ≡ true) (sym d) k)))
            | inr n ↦ subst (λ x. chain_before f R (x ∷ xs) (c ∷ zs) ≡ true) (sym e)
                (chain_before-fork b c xs zs n ∙ sym (chain_before-fork b c ys zs n) ∙ k)
          ]
          | inr m ↦ elim (cases_id b c) [
            | inl d ↦ subst (λ x. chain_before f R (a ∷ xs) (x ∷ zs) ≡ true) d
                (chain_before-fork a b xs zs m ∙ sym (chain_before-fork a b xs ys m) ∙ h)
            | inr n ↦ fork-trans a b c xs ys zs m n (sym (chain_before-fork a b xs ys m) ∙ h) (sym (chain_before-fork b c ys zs n) ∙ k)
          ]
        ]

-- of two distinct chains one stands before the other, where that is so for distinct members
module _ (f : Bool) (R : Identifier → Identifier → Bool) (P : Identifier → Type 0) (total : (a b : Identifier) → P a → P b → a ≢ b → R a b ≡ false → R b a ≡ true) where
  pub chain_before-total : (xs ys : List Identifier) → All P xs → All P ys → xs ≢ ys → chain_before f R xs ys ≡ false → chain_before f R ys xs ≡ true
  chain_before-total [] [] p q n h = absurd (n refl)
  chain_before-total [] (b ∷ ys) p q n h = ap not h
  chain_before-total (a ∷ xs) [] p q n h = not-false f h
  chain_before-total (a ∷ xs) (b ∷ ys) p q n h =
      elim (cases_id a b) [
        | inl e ↦ subst (λ x. chain_before f R (b ∷ ys) (x ∷ xs) ≡ true) (sym e)
            (chain_before-same f R b ys xs
            ∙ chain_before-total xs ys (All-tail P a xs p) (All-tail P b ys q) (λ d. n (λ i. e i ∷ d i))
            (sym (chain_before-same f R b xs ys) ∙ subst (λ x. chain_before f R (x ∷ xs) (b ∷ ys) ≡ false) e h))
        | inr m ↦ chain_before-fork f R b a ys xs (λ e. m (sym e)) ∙ total a b (All-head P a xs p) (All-head P b ys q) m (sym (chain_before-fork f R a b xs ys m) ∙ h)
      ]

-- orders that agree on the members of two chains compare them alike
module _ (f : Bool) (R S : Identifier → Identifier → Bool) (P : Identifier → Type 0) (agree : (a b : Identifier) → P a → P b → R a b ≡ S a b) where
  pub chain_before-agree : (xs ys : List Identifier) → All P xs → All P ys → chain_before f R xs ys ≡ chain_before f S xs ys
  chain_before-agree [] [] p q = refl
  chain_before-agree [] (b ∷ ys) p q = refl
  chain_before-agree (a ∷ xs) [] p q = refl
  chain_before-agree (a ∷ xs) (b ∷ ys) p q =
      elim (cases_id a b) [
        | inl e ↦ subst (λ x. chain_before f R (a ∷ xs) (x ∷ ys) ≡ chain_before f S (a ∷ xs) (x ∷ ys)) e
            (chain_before-same f R a xs ys ∙ chain_before-agree xs ys (All-tail P a xs p) (All-tail P b ys q) ∙ sym (chain_before-same f S a xs ys))
        | inr m ↦ chain_before-fork f R a b xs ys m ∙ agree a b (All-head P a xs p) (All-head P b ys q) ∙ sym (chain_before-fork f S a b xs ys m)
      ]
