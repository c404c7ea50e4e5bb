-- A subtree's sum is the sum of its nodes in order.
use Rattle.std.proofs.Common.{◌≡◌, ℕ, zero, suc, ◌+◌, ◌≤◌, List, [], ◌∷◌, ◌++◌, length, take, drop, Option, None, Some, refl, sym, ap, ◌∙◌, arith}
use Rattle.node_rope.specs.Walk.{Tree, count_of, all_nodes, HasCounts}
use Rattle.node_rope.specs.Sums.{Measure, IsLawful, sum_measure, sum_of, IsSummed, fold}
use Rattle.node_rope.proofs.WalkLemmas.{whole-node, length-whole}

pub adding-lawful : IsLawful sum_measure
adding-lawful = record { before = λ a. omega arith; assoc = λ a b c. omega arith }

module _ {M : Type 0} (m : Measure M) (L : IsLawful m) where
  pub fold-append : (own : ℕ → M) (xs ys : List ℕ) → fold m own (xs ++ ys) ≡ m.both (fold m own xs) (fold m own ys)
  fold-append own [] ys = sym (L.before (fold m own ys))
  fold-append own (x ∷ xs) ys = ap (m.both (own x)) (fold-append own xs ys) ∙ sym (L.assoc (own x) (fold m own xs) (fold m own ys))

  module _ (t : Tree) (ct : HasCounts t) (own s : ℕ → M) (summed : IsSummed m t own s) where
    sums : (k : ℕ) (o : Option ℕ) → count_of t o ≤ k → sum_of m s o ≡ fold m own (all_nodes t o)
    sums k None h = refl
    sums zero (Some x) h = absurd (omega (arith, ct x))
    sums (suc k) (Some x) h =
        let l = sums k (t.left x) (omega (arith, ct x)) in
        let r = sums k (t.right x) (omega (arith, ct x)) in
        summed x ∙ ap (λ a. m.both a (m.both (own x) (sum_of m s (t.right x)))) l ∙ ap (λ a. m.both (fold m own (all_nodes t (t.left x))) (m.both (own x) a)) r
        ∙ sym (fold-append own (all_nodes t (t.left x)) (x ∷ all_nodes t (t.right x))) ∙ ap (fold m own) (sym (whole-node t ct x))

    pub sum-is : (o : Option ℕ) → sum_of m s o ≡ fold m own (all_nodes t o)
    sum-is o = sums (count_of t o) o (omega arith)

-- equal numbers over equal links
pub summed-along : {M : Type 0} (m : Measure M) (t u : Tree) (own own' s s' : ℕ → M) → ((x : ℕ) → u.left x ≡ t.left x) → ((x : ℕ) → u.right x ≡ t.right x)
    → ((x : ℕ) → own' x ≡ own x) → ((x : ℕ) → s' x ≡ s x) → IsSummed m t own s → IsSummed m u own' s'
summed-along {M} m t u own own' s s' lefts rights owns sums h x =
    sums x ∙ h x ∙ (λ j. m.both (side (t.left x) (u.left x) (lefts x) j) (m.both (sym (owns x) j) (side (t.right x) (u.right x) (rights x) j))) where
      same : (o : Option ℕ) → sum_of m s o ≡ sum_of m s' o
      same None = refl
      same (Some y) = sym (sums y)

      side : (o q : Option ℕ) → q ≡ o → sum_of m s o ≡ sum_of m s' q
      side o q e = same o ∙ ap (sum_of m s') (sym e)

pub take-seam : (xs : List ℕ) (x : ℕ) (ys : List ℕ) (i j : ℕ) → j ≡ length xs + suc i → take j (xs ++ x ∷ ys) ≡ xs ++ x ∷ take i ys
take-seam [] x ys i zero e = absurd (omega (arith, e))
take-seam [] x ys i (suc j) e = let k : j ≡ i = omega (arith, e) in ap (λ n. x ∷ take n ys) k
take-seam (z ∷ xs) x ys i zero e = absurd (omega (arith, e))
take-seam (z ∷ xs) x ys i (suc j) e = ap (λ zs. z ∷ zs) (take-seam xs x ys i j (omega (arith, e)))

pub take-first : (xs ys : List ℕ) (i : ℕ) → i ≤ length xs → take i (xs ++ ys) ≡ take i xs
take-first [] [] zero h = refl
take-first [] (y ∷ ys) zero h = refl
take-first [] ys (suc i) h = absurd (omega arith)
take-first (x ∷ xs) ys zero h = refl
take-first (x ∷ xs) ys (suc i) h = ap (λ zs. x ∷ zs) (take-first xs ys i (omega arith))

pub drop-first : (xs ys : List ℕ) (i : ℕ) → i ≤ length xs → drop i (xs ++ ys) ≡ drop i xs ++ ys
drop-first xs ys zero h = refl
drop-first [] ys (suc i) h = absurd (omega arith)
drop-first (x ∷ xs) ys (suc i) h = drop-first xs ys i (omega arith)

pub drop-past : (xs : List ℕ) (x : ℕ) (ys : List ℕ) (i j : ℕ) → j ≡ length xs + suc i → drop j (xs ++ x ∷ ys) ≡ drop i ys
drop-past [] x ys i zero e = absurd (omega (arith, e))
drop-past [] x ys i (suc j) e = let k : j ≡ i = omega (arith, e) in ap (λ n. drop n ys) k
drop-past (z ∷ xs) x ys i zero e = absurd (omega (arith, e))
drop-past (z ∷ xs) x ys i (suc j) e = drop-past xs x ys i j (omega (arith, e))

take-all : (xs : List ℕ) (i : ℕ) → i ≡ length xs → take i xs ≡ xs
take-all [] zero e = refl
take-all [] (suc i) e = absurd (omega arith)
take-all (x ∷ xs) zero e = absurd (omega arith)
take-all (x ∷ xs) (suc i) e = ap (λ zs. x ∷ zs) (take-all xs i (omega arith))

-- ---- the nodes before a place
module _ (t : Tree) (ct : HasCounts t) where
  pub first-self : (x i : ℕ) → i ≡ count_of t (t.left x) → take i (all_nodes t (Some x)) ≡ all_nodes t (t.left x)
  first-self x i e = let l = length-whole t ct (t.left x) in
      ap (take i) (whole-node t ct x) ∙ take-first (all_nodes t (t.left x)) (x ∷ all_nodes t (t.right x)) i (omega (arith, l, e))
      ∙ take-all (all_nodes t (t.left x)) i (omega (arith, l, e))

  pub first-left : (p c i : ℕ) → t.left p ≡ Some c → i ≤ t.count c → take i (all_nodes t (Some p)) ≡ take i (all_nodes t (Some c))
  first-left p c i e h = let l = length-whole t ct (t.left p) in
      ap (take i) (whole-node t ct p) ∙ take-first (all_nodes t (t.left p)) (p ∷ all_nodes t (t.right p)) i (omega (arith, l, ap (count_of t) e))
      ∙ ap (λ o. take i (all_nodes t o)) e

  pub first-right : (p c i j : ℕ) → t.right p ≡ Some c → j ≡ count_of t (t.left p) + suc i
      → take j (all_nodes t (Some p)) ≡ all_nodes t (t.left p) ++ p ∷ take i (all_nodes t (Some c))
  first-right p c i j e f = let l = length-whole t ct (t.left p) in
      ap (take j) (whole-node t ct p) ∙ take-seam (all_nodes t (t.left p)) p (all_nodes t (t.right p)) i j (omega (arith, l, f))
      ∙ ap (λ o. all_nodes t (t.left p) ++ p ∷ take i (all_nodes t o)) e
