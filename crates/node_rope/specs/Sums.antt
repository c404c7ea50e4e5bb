-- Sums over subtrees, in any measure: a zero, and a sum of two.
use Rattle.std.specs.Prelude.{◌≡◌, ℕ, ◌+◌, min, List, [], ◌∷◌, Option, None, Some}
use Rattle.node_rope.specs.Walk.{Tree}

-- how values are summed over subtrees: the sum of none, and of two
pub record Measure (M : Type 0) : Type 0 where
  pub none : M
  pub both : M → M → M

-- the sum of none is neutral on the left, and sums are associative
pub record IsLawful {M : Type 0} (m : Measure M) : Type 0 where
  pub before : (a : M) → m.both m.none a ≡ a
  pub assoc : (a b c : M) → m.both (m.both a b) c ≡ m.both a (m.both b c)

-- the order of what is summed does not matter
pub record IsCommutative {M : Type 0} (m : Measure M) : Type 0 where
  pub assoc : (a b c : M) → m.both (m.both a b) c ≡ m.both a (m.both b c)
  pub comm : (a b : M) → m.both a b ≡ m.both b a

-- the sum of numbers
abbrev pub sum_measure : Measure ℕ
sum_measure = record { none = 0; both = λ a b. a + b }

-- the greatest number of 64 bits stands for the rank of nothing
abbrev pub no_rank : ℕ
no_rank = 18446744073709551615

-- the least of ranks
abbrev pub lesser : Measure ℕ
lesser = record { none = no_rank; both = λ a b. min a b }

module _ {M : Type 0} (m : Measure M) where
  abbrev pub sum_of : (ℕ → M) → Option ℕ → M
  sum_of s None = m.none
  sum_of s (Some x) = s x

  -- each node's sum is what stands below its left, its own, and what stands below its right
  abbrev pub IsSummed : Tree → (ℕ → M) → (ℕ → M) → Type 0
  IsSummed t own s = (x : ℕ) → s x ≡ m.both (sum_of s (t.left x)) (m.both (own x) (sum_of s (t.right x)))

  -- the sum of a list of nodes
  abbrev pub fold : (ℕ → M) → List ℕ → M
  fold own [] = m.none
  fold own (x ∷ xs) = m.both (own x) (fold own xs)
