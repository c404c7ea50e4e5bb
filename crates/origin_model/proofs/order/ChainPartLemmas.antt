-- How the comparison of two chains goes on where one of them begins with the other, or parts from it.
use Rattle.origin_model.proofs.Words.{Bool, Contains, Identifier, List, Passes, [], ap, cases_id, chain_before, contains_middle, false, inl, inr, refl, subst, sym, true, ◌++◌, ◌∙◌}
use Rattle.origin_model.proofs.Words.{◌∷◌, ◌≡◌, ◌≢◌, ◌⊎◌}
use Rattle.origin_model.proofs.order.ChainOrderLemmas.{chain_before-fork, chain_before-same}

-- the comparison, by the order R at the fork
module _ (f : Bool) (R : Identifier → Identifier → Bool) where
  -- a common front does not count
  pub common : (c xs ys : List Identifier) → chain_before f R (c ++ xs) (c ++ ys) ≡ chain_before f R xs ys
  common [] xs ys = refl
  common (a ∷ c) xs ys = chain_before-same f R a (c ++ xs) (c ++ ys) ∙ common c xs ys

  -- a chain begins with another, or parts from it before its end, and then so from all its extensions
  pub parts : (xs ys : List Identifier) → Passes xs ys ⊎ ((zs : List Identifier) → chain_before f R (xs ++ zs) ys ≡ chain_before f R xs ys)
  parts [] ys = inl (ys, refl)
  parts (x ∷ xs) [] = inr (λ zs. refl)
  parts (x ∷ xs) (y ∷ ys) =
      elim (cases_id x y) [
        | inl e ↦ elim (parts xs ys) [
          | inl p ↦ inl (p.0, λ i. sym e i ∷ p.1 i)
          | inr q ↦ inr (λ zs. subst (λ w. chain_before f R (x ∷ (xs ++ zs)) (w ∷ ys) ≡ chain_before f R (x ∷ xs) (w ∷ ys)) e
              (chain_before-same f R x (xs ++ zs) ys ∙ q zs ∙ sym (chain_before-same f R x xs ys)))
        ]
        | inr n ↦ inr (λ zs. chain_before-fork f R x y (xs ++ zs) ys n ∙ sym (chain_before-fork f R x y xs ys n))
      ]

  -- the same with the comparison the other way round
  pub parts_late : (xs ys : List Identifier) → Passes xs ys ⊎ ((zs : List Identifier) → chain_before f R ys (xs ++ zs) ≡ chain_before f R ys xs)
  parts_late [] ys = inl (ys, refl)
  parts_late (x ∷ xs) [] = inr (λ zs. refl)
  parts_late (x ∷ xs) (y ∷ ys) =
      elim (cases_id y x) [
        | inl e ↦ elim (parts_late xs ys) [
          | inl p ↦ inl (p.0, λ i. e i ∷ p.1 i)
          | inr q ↦ inr (λ zs. subst (λ w. chain_before f R (y ∷ ys) (w ∷ (xs ++ zs)) ≡ chain_before f R (y ∷ ys) (w ∷ xs)) e
              (chain_before-same f R y ys (xs ++ zs) ∙ q zs ∙ sym (chain_before-same f R y ys xs)))
        ]
        | inr n ↦ inr (λ zs. chain_before-fork f R y x ys (xs ++ zs) n ∙ sym (chain_before-fork f R y x ys xs n))
      ]

  -- es stands before every extension of c, or turns off there to x, or to something that stands before x
  abbrev pub Turns : (es c : List Identifier) → Identifier → Type 0
  Turns es c x =
      ((z : Identifier) (zs : List Identifier) → chain_before f R es (c ++ z ∷ zs) ≡ true)
      ⊎ ((u : Identifier) × (more : List Identifier) × (es ≡ c ++ u ∷ more) × ((u ≡ x) ⊎ ((u ≢ x) × (R u x ≡ true))))

  -- so does what stands before a chain that ends in x
  pub turns_off : (es c : List Identifier) (x : Identifier) → chain_before f R es (c ++ x ∷ []) ≡ true → Turns es c x
  turns_off es c x h =
      let at : (m ys : List Identifier) → es ≡ c ++ m
      → chain_before f R es (c ++ ys) ≡ chain_before f R m ys = λ m ys e. ap (λ l. chain_before f R l (c ++ ys)) e ∙ common c m ys in
      elim (parts_late c es) [
        | inr q ↦ inl (λ z zs. q (z ∷ zs) ∙ sym (q (x ∷ [])) ∙ h)
        | inl p ↦ (elim p.0 as (λ m. es ≡ c ++ m → Turns es c x) [
          | [] ↦ (λ e. inl (λ z zs. at [] (z ∷ zs) e ∙ sym (at [] (x ∷ []) e) ∙ h))
          | u ∷ more ↦ (λ e. inr (u, more, e, elim (cases_id u x) [ inl d ↦ inl d | inr m ↦ inr (m, sym (at (u ∷ more) (x ∷ []) e ∙ chain_before-fork f R u x more [] m) ∙ h) ]))
        ]) p.1
      ]

-- where a prefix goes last, what is longer than it goes before it
pub longer : (F : Identifier → Identifier → Bool) (xs : List Identifier) → (xs ≡ [] → ⊥) → chain_before false F xs [] ≡ true
longer F [] n = absurd (n refl)
longer F (x ∷ xs) n = refl

-- where x is no member, es turns off to something that stands before x
pub turns : (R : Identifier → Identifier → Bool) (es c : List Identifier) (x : Identifier)
    → chain_before true R es (c ++ x ∷ []) ≡ true → (Contains es x → ⊥)
    → ((z : Identifier) (zs : List Identifier) → chain_before true R es (c ++ z ∷ zs) ≡ true)
    ⊎ ((u : Identifier) × (more : List Identifier) × (es ≡ c ++ u ∷ more) × (R u x ≡ true))
turns R es c x h n =
    elim (turns_off true R es c x h) [
      | inl g ↦ inl g
      | inr t ↦ inr (
        t.0,
        t.1,
        t.2,
        elim t.3 [
          | inl d ↦ absurd (n (subst (λ l. Contains l x) (sym (t.2 ∙ ap (λ u. c ++ u ∷ t.1) d)) (contains_middle c x t.1)))
          | inr k ↦ k.1
        ],
      )
    ]
