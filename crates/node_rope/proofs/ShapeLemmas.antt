-- Reading a shape.
use Rattle.std.proofs.Common.{◌≡◌, ℕ, ◌<◌, List, length, refl, ap, None, arith}
use Rattle.node_rope.specs.Shaped.{shape_of}
use Rattle.node_rope.specs.Sums.{sum_measure, lesser, sum_of}
use Rattle.node_rope.specs.Shapes.{weight_at, weights, least_at, leasts}
use Rattle.node_rope.proofs.BoxLemmas.{lies-below}
use Rattle.std.proofs.lemmas.List.{length-map}
use Rattle.node_rope.specs.declared.store.Store.{Store}
use Rattle.node_rope.specs.declared.cells.Shape.{Shape}
use Rattle.node_rope.specs.Made.{shapes_of, made_count}
use Rattle.std.proofs.Common.{◌-◌, suc, inl, inr, Option, Some}
use Rattle.node_rope.specs.declared.cells.Link.{Link}
use Rattle.node_rope.specs.Made.{IsMade}
use Rattle.node_rope.specs.Walk.{Tree}
use Rattle.node_rope.specs.Shapes.{shape_at, tree_of, link_number, HasRightLinks}
use Rattle.node_rope.proofs.WalkLemmas.{below-left, below-right}

pub length-shapes : {T : Type 0} (s : Store T) → length (shapes_of s) ≡ made_count s
length-shapes s = length-map s.pile.values shape_of

pub made-below : {T : Type 0} (s : Store T) (l : Link) → IsMade s l → l.number < made_count s
made-below s l at = let h = lies-below s.pile.moorings l.number l.spot.address at in let pair = s.pile.paired in omega arith

pub weight-sum : (ss : List Shape) (o : Option Link) → weight_at ss o ≡ sum_of sum_measure (weights ss) (link_number o)
weight-sum ss None = refl
weight-sum ss (Some l) = refl

pub least-sum : (ss : List Shape) (o : Option Link) → least_at ss o ≡ sum_of lesser (leasts ss) (link_number o)
least-sum ss None = refl
least-sum ss (Some l) = refl

-- ---- one step up, from i to its parent p
module _ {T : Type 0} (s : Store T) (root : Option Link) (sound : HasRightLinks s root) (i : ℕ) (p : Link) (up : (shape_at (shapes_of s) i).parent ≡ Some p) where
  abbrev t : Tree
  t = tree_of (shapes_of s)

  pub up_made : IsMade s p
  up_made = sound.made_parent i p up

  up_number : t.parent i ≡ Some p.number
  up_number = ap link_number up

  pub is_left : (t.right p.number ≡ Some i → ⊥) → t.left p.number ≡ Some i
  is_left other = elim (sound.below i p.number up_number) as (λ _. t.left p.number ≡ Some i) [
    | inl e ↦ e
    | inr e ↦ absurd (other e)
  ]

  pub higher : t.count i < t.count p.number
  higher = elim (sound.below i p.number up_number) as (λ _. t.count i < t.count p.number) [
    | inl e ↦ below-left t sound.counted p.number i e
    | inr e ↦ below-right t sound.counted p.number i e
  ]

  -- the measure of a climb
  pub nearer : (m : ℕ) → m ≡ suc (made_count s) → m - t.count p.number < m - t.count i
  nearer m e = omega (arith, e, higher, sound.small p.number)
