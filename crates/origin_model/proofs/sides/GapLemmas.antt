-- An element placed in an ordered list stands in the gap that its neighbour tells.
use Rattle.origin_model.proofs.Words.{Bool, Contains, Identifier, IsOrderedBy, List, [], all_from_contains, all_pairs_tail, ap, cases_Bool, cases_id, contains_cases, contains_here}
use Rattle.origin_model.proofs.Words.{contains_none, contains_there, eq-id_eq, false, false_from_ne_true, if◌then◌else◌, inl, inr, ne-id_eq, placed, sym, true, true≢false, ◌∙◌}
use Rattle.origin_model.proofs.Words.{◌∷◌, ◌≡◌, ◌⊎◌}
use Rattle.origin_model.specs.sides.Slot.{inserted_before, inserted_after}
use Rattle.origin_model.proofs.order.{first_before, in_rest, no_loop, placed-behind, placed-first}

-- a list in a strict order
module _ (R : Identifier → Identifier → Bool) (irrefl : (a : Identifier) → R a a ≡ false) (trans : (a b c : Identifier) → R a b ≡ true → R b c ≡ true → R a c ≡ true) where
  -- what stands after y, and before all that stands after y, is placed directly after y
  pub placed-after : (x y : Identifier) (o : List Identifier) → IsOrderedBy R o → Contains o y → R y x ≡ true
      → ((e : Identifier) → Contains o e → R e x ≡ true → (e ≡ y) ⊎ (R e y ≡ true)) → placed (λ e. R e x) o x ≡ inserted_after y x o
  placed-after x y [] v m k f = absurd (contains_none y m)
  placed-after x y (e ∷ es) v m k f =
      elim (cases_id e y) [
        | inl d ↦
            placed-behind (λ z. R z x) e es x (ap (λ z. R z x) d ∙ k)
            ∙ ap (λ t. e ∷ t) (placed-first (λ z. R z x) es x (all_from_contains (λ z. R z x ≡ false) es (λ z n.
            let ez : R e z ≡ true = first_before R e z es v n in
            false_from_ne_true (R z x) (λ j. elim (f z (contains_there e es z n) j) [
              | inl c ↦ true≢false (sym ez ∙ ap (R e) (c ∙ sym d) ∙ irrefl e)
              | inr c ↦ no_loop R irrefl trans e z ez (ap (R z) d ∙ c)
            ]))))
            ∙ ap (λ b. if b then e ∷ x ∷ es else e ∷ inserted_after y x es) (sym (eq-id_eq e y d))
        | inr d ↦
            let n : Contains es y = in_rest e es y (λ c. d (sym c)) m in
            placed-behind (λ z. R z x) e es x (trans e y x (first_before R e y es v n) k)
            ∙ ap (λ t. e ∷ t) (placed-after x y es (all_pairs_tail (λ a b. R a b ≡ true) e es v) n k (λ z j. f z (contains_there e es z j)))
            ∙ ap (λ b. if b then e ∷ x ∷ es else e ∷ inserted_after y x es) (sym (ne-id_eq e y d))
      ]

  -- what stands before y, and after all that stands before y, is placed directly before y
  pub placed-before : (x y : Identifier) (o : List Identifier) → IsOrderedBy R o → Contains o y → R x y ≡ true
      → ((e : Identifier) → Contains o e → R e x ≡ false → R x e ≡ true)
      → ((e : Identifier) → Contains o e → R x e ≡ true → (e ≡ y) ⊎ (R y e ≡ true)) → placed (λ e. R e x) o x ≡ inserted_before y x o
  placed-before x y [] v m k t f = absurd (contains_none y m)
  placed-before x y (e ∷ es) v m k t f =
      elim (cases_id e y) [
        | inl d ↦
            placed-first (λ z. R z x) (e ∷ es) x (all_from_contains (λ z. R z x ≡ false) (e ∷ es) (λ z n.
            false_from_ne_true (R z x) (λ j. no_loop R irrefl trans x z (elim (contains_cases e es z n) [
              | inl c ↦ ap (R x) (sym c ∙ d) ∙ k
              | inr c ↦ trans x y z k (ap (λ q. R q z) (sym d) ∙ first_before R e z es v c)
            ]) j)))
            ∙ ap (λ b. if b then x ∷ e ∷ es else e ∷ inserted_before y x es) (sym (eq-id_eq e y d))
        | inr d ↦
            let n : Contains es y = in_rest e es y (λ c. d (sym c)) m in
            let here : Contains (e ∷ es) e = contains_here e es in
            let ex : R e x ≡ true = elim (cases_Bool (R e x)) [
              | inl j ↦ j
              | inr j ↦ elim (f e here (t e here j)) [ inl c ↦ absurd (d c) | inr c ↦ absurd (no_loop R irrefl trans e y (first_before R e y es v n) c) ]
            ] in
            placed-behind (λ z. R z x) e es x ex
            ∙ ap (λ l. e ∷ l) (placed-before x y es (all_pairs_tail (λ a b. R a b ≡ true) e es v) n k (λ z j. t z (contains_there e es z j)) (λ z j. f z (contains_there e es z j)))
            ∙ ap (λ b. if b then x ∷ e ∷ es else e ∷ inserted_before y x es) (sym (ne-id_eq e y d))
      ]
