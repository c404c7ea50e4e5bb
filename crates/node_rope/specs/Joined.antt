-- A node joins a tree, and the sums above it are not yet raised.
use Rattle.std.specs.Prelude.{◌≡◌, ◌≢◌, ◌⊎◌, ℕ, Option, None, Some}
use Rattle.node_rope.specs.Walk.{Tree}
use Rattle.node_rope.specs.Sums.{Measure, sum_of}

-- n comes between y and what was below its left
pub record IsJoined (t u : Tree) (y n : ℕ) : Type 0 where
  pub y_left : u.left y ≡ Some n
  pub n_left : u.left n ≡ t.left y
  pub n_right : u.right n ≡ None
  pub n_parent : u.parent n ≡ Some y
  pub moved_parent : (m : ℕ) → t.left y ≡ Some m → u.parent m ≡ Some n
  pub others_left : (x : ℕ) → x ≢ y → x ≢ n → u.left x ≡ t.left x
  pub others_right : (x : ℕ) → x ≢ n → u.right x ≡ t.right x
  pub others_parent : (x : ℕ) → x ≢ n → (t.left y ≡ Some x → ⊥) → u.parent x ≡ t.parent x
  pub new_left : (x : ℕ) → t.left x ≡ Some n → ⊥
  pub new_right : (x : ℕ) → t.right x ≡ Some n → ⊥
  pub new_parent : (x : ℕ) → t.parent x ≡ Some n → ⊥
  pub fresh : n ≢ y

-- the sums are right but at o, where d is lacking
pub record IsSummedBut {M : Type 0} (m : Measure M) (t : Tree) (own s : ℕ → M) (d : M) (o : Option ℕ) : Type 0 where
  pub low : (x : ℕ) → o ≡ Some x → m.both (s x) d ≡ m.both (sum_of m s (t.left x)) (m.both (own x) (sum_of m s (t.right x)))
  pub rest : (x : ℕ) → (o ≡ Some x → ⊥) → s x ≡ m.both (sum_of m s (t.left x)) (m.both (own x) (sum_of m s (t.right x)))

-- each parent leads back
abbrev pub IsBelow : Tree → Type 0
IsBelow t = (i p : ℕ) → t.parent i ≡ Some p → (t.left p ≡ Some i) ⊎ (t.right p ≡ Some i)
