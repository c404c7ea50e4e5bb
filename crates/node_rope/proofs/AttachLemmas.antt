-- A leaf is attached, and the counts above it are raised.
use Rattle.std.proofs.Common.{◌≡◌, ℕ, zero, suc, ◌≤◌, ◌≢◌, inl, inr, cond, [], ◌∷◌, ◌++◌, flat_map, Option, None, Some, refl, sym, ap, ◌∙◌, arith}
use Rattle.std.proofs.lemmas.Bool.Decides.{eqb_tells}
use Rattle.std.proofs.lemmas.List.{append_assoc}
use Rattle.std.proofs.lemmas.List.Concat.{flat_map-append}
use Rattle.node_rope.specs.Walk.{Tree, count_of, all_nodes, HasCounts, IsAttached, with_node_before, after, mirror}
use Rattle.node_rope.proofs.WalkLemmas.{whole-node}
use Rattle.fugue_ids.proofs.OptionLemmas.{cases_number}

before-here : (y n : ℕ) → with_node_before y n y ≡ n ∷ y ∷ []
before-here y n = elim (eqb_tells y y) as (λ _. with_node_before y n y ≡ n ∷ y ∷ []) [
  | inl e ↦ ap (λ b. cond b (n ∷ y ∷ []) (y ∷ [])) e.0
  | inr e ↦ absurd (e.1 refl)
]

before-other : (y n x : ℕ) → x ≢ y → with_node_before y n x ≡ x ∷ []
before-other y n x h = elim (eqb_tells x y) as (λ _. with_node_before y n x ≡ x ∷ []) [
  | inl e ↦ absurd (h e.1)
  | inr e ↦ ap (λ b. cond b (n ∷ y ∷ []) (x ∷ [])) e.0
]

module _ (t u : Tree) (ct : HasCounts t) (cu : HasCounts u) (y n : ℕ) (a : IsAttached t u y n) where
  pub attached-walk : (k : ℕ) (o : Option ℕ) → count_of t o ≤ k → (o ≡ Some n → ⊥) → all_nodes u o ≡ flat_map (with_node_before y n) (all_nodes t o)
  attached-walk k None h f = refl
  attached-walk zero (Some x) h f = absurd (omega (arith, ct x))
  attached-walk (suc k) (Some x) h f =
      let xn : x ≢ n = λ e. f (ap Some e) in
      let l = attached-walk k (t.left x) (omega (arith, ct x)) (a.new_left x) in
      let r = attached-walk k (t.right x) (omega (arith, ct x)) (a.new_right x) in
      let F = flat_map (with_node_before y n) in
      let L = all_nodes t (t.left x) in
      let R = all_nodes t (t.right x) in
      let split : F (L ++ x ∷ R) ≡ F L ++ (with_node_before y n x ++ F R) = flat_map-append (with_node_before y n) L (x ∷ R) in
      whole-node u cu x ∙ ap (λ o. all_nodes u (u.left x) ++ x ∷ all_nodes u o) (a.others_right x xn) ∙ ap (λ ys. all_nodes u (u.left x) ++ x ∷ ys) r ∙
      elim (cases_number x y) as (λ _. all_nodes u (u.left x) ++ x ∷ F R ≡ F (all_nodes t (Some x))) [
        | inl e ↦ (
            let l' : all_nodes u (u.left n) ≡ F L = ap (all_nodes u) (a.n_left ∙ ap t.left (sym e)) ∙ l in
            let made : all_nodes u (u.left x) ≡ F L ++ n ∷ [] =
            ap (λ z. all_nodes u (u.left z)) e ∙ ap (all_nodes u) a.y_left ∙ whole-node u cu n ∙ ap (λ xs. xs ++ n ∷ all_nodes u (u.right n)) l'
            ∙ ap (λ o. F L ++ n ∷ all_nodes u o) a.n_right in
            ap (λ xs. xs ++ x ∷ F R) made ∙ append_assoc (F L) (n ∷ []) (x ∷ F R)
            ∙ ap (λ z. F L ++ (n ∷ z ∷ F R)) e ∙ ap (λ xs. F L ++ (xs ++ F R)) (sym (before-here y n)) ∙ ap (λ z. F L ++ (with_node_before y n z ++ F R)) (sym e) ∙ sym split
            ∙ ap F (sym (whole-node t ct x)))
        | inr e ↦
            ap (λ o. all_nodes u o ++ x ∷ F R) (a.others_left x e xn) ∙ ap (λ xs. xs ++ x ∷ F R) l ∙ ap (λ xs. F L ++ (xs ++ F R)) (sym (before-other y n x e)) ∙ sym split
            ∙ ap F (sym (whole-node t ct x))
      ]

after-here : (y n : ℕ) → after y n y ≡ y ∷ n ∷ []
after-here y n = elim (eqb_tells y y) as (λ _. after y n y ≡ y ∷ n ∷ []) [
  | inl e ↦ ap (λ b. cond b (y ∷ n ∷ []) (y ∷ [])) e.0
  | inr e ↦ absurd (e.1 refl)
]

after-other : (y n x : ℕ) → x ≢ y → after y n x ≡ x ∷ []
after-other y n x h = elim (eqb_tells x y) as (λ _. after y n x ≡ x ∷ []) [
  | inl e ↦ absurd (h e.1)
  | inr e ↦ ap (λ b. cond b (x ∷ n ∷ []) (x ∷ [])) e.0
]

-- the same with the sides exchanged
module _ (t u : Tree) (ct : HasCounts t) (cu : HasCounts u) (y n : ℕ) (a : IsAttached (mirror t) (mirror u) y n) where
  pub attached-walk-after : (k : ℕ) (o : Option ℕ) → count_of t o ≤ k → (o ≡ Some n → ⊥) → all_nodes u o ≡ flat_map (after y n) (all_nodes t o)
  attached-walk-after k None h f = refl
  attached-walk-after zero (Some x) h f = absurd (omega (arith, ct x))
  attached-walk-after (suc k) (Some x) h f =
      let xn : x ≢ n = λ e. f (ap Some e) in
      let l = attached-walk-after k (t.left x) (omega (arith, ct x)) (a.new_right x) in
      let r = attached-walk-after k (t.right x) (omega (arith, ct x)) (a.new_left x) in
      let F = flat_map (after y n) in
      let L = all_nodes t (t.left x) in
      let R = all_nodes t (t.right x) in
      let split : F (L ++ x ∷ R) ≡ F L ++ (after y n x ++ F R) = flat_map-append (after y n) L (x ∷ R) in
      whole-node u cu x ∙ ap (λ o. all_nodes u o ++ x ∷ all_nodes u (u.right x)) (a.others_right x xn) ∙ ap (λ xs. xs ++ x ∷ all_nodes u (u.right x)) l ∙
      elim (cases_number x y) as (λ _. F L ++ x ∷ all_nodes u (u.right x) ≡ F (all_nodes t (Some x))) [
        | inl e ↦ (
            let r' : all_nodes u (u.right n) ≡ F R = ap (all_nodes u) (a.n_left ∙ ap t.right (sym e)) ∙ r in
            let made : all_nodes u (u.right x) ≡ n ∷ F R =
            ap (λ z. all_nodes u (u.right z)) e ∙ ap (all_nodes u) a.y_left ∙ whole-node u cu n ∙ ap (λ o. all_nodes u o ++ n ∷ all_nodes u (u.right n)) a.n_right
            ∙ ap (λ ys. n ∷ ys) r' in
            ap (λ ys. F L ++ x ∷ ys) made ∙ ap (λ z. F L ++ (z ∷ n ∷ F R)) e ∙ ap (λ xs. F L ++ (xs ++ F R)) (sym (after-here y n)) ∙ ap (λ z. F L ++ (after y n z ++ F R)) (sym e)
            ∙ sym split ∙ ap F (sym (whole-node t ct x)))
        | inr e ↦
            ap (λ o. F L ++ x ∷ all_nodes u o) (a.others_left x e xn) ∙ ap (λ ys. F L ++ x ∷ ys) r ∙ ap (λ xs. F L ++ (xs ++ F R)) (sym (after-other y n x e)) ∙ sym split
            ∙ ap F (sym (whole-node t ct x))
      ]
