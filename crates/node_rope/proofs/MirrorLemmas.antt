-- What holds of a tree with its sides exchanged.
use Rattle.std.proofs.Common.{◌≡◌, ℕ, zero, suc, ◌+◌, ◌⊎◌, inl, inr, [], ◌∷◌, ◌++◌, Option, None, Some, refl, sym, ap, ◌∙◌, arith, append_assoc}
use Rattle.std.specs.Prelude.{reverse}
use Rattle.std.proofs.lemmas.List.{reverse-append}
use Rattle.node_rope.specs.Walk.{Tree, count_of, tree_walk, all_nodes, HasCounts, IsLinked, mirror}
use Rattle.node_rope.proofs.JoinLemmas.{turn-round}
use Rattle.node_rope.specs.Sums.{Measure, IsCommutative, sum_of, IsSummed}
use Rattle.node_rope.specs.Joined.{IsSummedBut, IsBelow}

pub mirror-counted : (t : Tree) → HasCounts t → HasCounts (mirror t)
mirror-counted t counted x = by (t.left x) (t.right x) (counted x) where
  by : (o q : Option ℕ) → t.count x ≡ count_of t o + (count_of t q + 1) → t.count x ≡ count_of (mirror t) q + (count_of (mirror t) o + 1)
  by None None e = omega (arith, e)
  by None (Some m) e = omega (arith, e)
  by (Some m) None e = omega (arith, e)
  by (Some m) (Some k) e = omega (arith, e)

module _ {M : Type 0} (m : Measure M) (C : IsCommutative m) (t : Tree) (own s : ℕ → M) where
  pub mirror-summed : IsSummed m t own s → IsSummed m (mirror t) own s
  mirror-summed h x = h x ∙ turn-round m C (sum_of m s (t.left x)) (own x) (sum_of m s (t.right x))

  pub mirror-but : (d : M) (o : Option ℕ) → IsSummedBut m (mirror t) own s d o → IsSummedBut m t own s d o
  mirror-but d o b = record {
    low = λ x e. b.low x e ∙ turn-round m C (sum_of m s (t.right x)) (own x) (sum_of m s (t.left x));
    rest = λ x e. b.rest x e ∙ turn-round m C (sum_of m s (t.right x)) (own x) (sum_of m s (t.left x));
  }

pub mirror-linked : (t : Tree) → IsLinked t → IsLinked (mirror t)
mirror-linked t linked = record { from_left = linked.from_right; from_right = linked.from_left; apart = λ x m e f. linked.apart x m f e }

pub mirror-below : (t : Tree) → IsBelow t → IsBelow (mirror t)
mirror-below t below i p e = elim (below i p e) as (λ _. (t.right p ≡ Some i) ⊎ (t.left p ≡ Some i)) [ inl f ↦ inr f | inr f ↦ inl f ]

walk-mirrored : (t : Tree) (f : ℕ) (o : Option ℕ) → tree_walk (mirror t) f o ≡ reverse (tree_walk t f o)
walk-mirrored t f None = refl
walk-mirrored t zero (Some x) = refl
walk-mirrored t (suc f) (Some x) =
    ap (λ xs. xs ++ x ∷ tree_walk (mirror t) f (t.left x)) (walk-mirrored t f (t.right x)) ∙ ap (λ xs. reverse (tree_walk t f (t.right x)) ++ x ∷ xs) (walk-mirrored t f (t.left x))
    ∙ sym (append_assoc (reverse (tree_walk t f (t.right x))) (x ∷ []) (reverse (tree_walk t f (t.left x))))
    ∙ ap (λ xs. xs ++ reverse (tree_walk t f (t.left x))) (sym (reverse-append (x ∷ []) (tree_walk t f (t.right x))))
    ∙ sym (reverse-append (tree_walk t f (t.left x)) (x ∷ tree_walk t f (t.right x)))

pub whole-mirrored : (t : Tree) (o : Option ℕ) → all_nodes (mirror t) o ≡ reverse (all_nodes t o)
whole-mirrored t None = refl
whole-mirrored t (Some x) = walk-mirrored t (t.count x) (Some x)
