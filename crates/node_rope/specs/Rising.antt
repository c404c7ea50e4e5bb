-- While sums are raised.
use Rattle.std.specs.Prelude.{◌≡◌, ℕ, ◌+◌, ◌<◌, ◌≤◌, ◌-◌, ◌^◌, min, ◌⊎◌, suc, List, Option, None, Some}
use Rattle.node_rope.specs.declared.store.Store.{Store}
use Rattle.node_rope.specs.declared.cells.Shape.{Shape}
use Rattle.node_rope.specs.declared.cells.Link.{Link}
use Rattle.node_rope.specs.declared.cells.Own.{Own}
use Rattle.node_rope.specs.Made.{shapes_of}
use Rattle.node_rope.specs.Walk.{IsLinked}
use Rattle.node_rope.specs.Sums.{sum_measure, lesser}
use Rattle.node_rope.specs.Shapes.{shape_at, link_number, tree_of, owns, weights, ranks, leasts, AreMade}
use Rattle.node_rope.specs.Joined.{IsSummedBut, IsBelow}

-- the links of ss are those of us, and so are the keys and what each value counts for
pub record IsLikewise (g h : Shape) : Type 0 where
  pub left : h.left ≡ g.left
  pub right : h.right ≡ g.right
  pub parent : h.parent ≡ g.parent
  pub key : h.key ≡ g.key
  pub own : h.own ≡ g.own

-- each node has the links, the key, the weight and the rank that it had
abbrev pub SameLinks : List Shape → List Shape → Type 0
SameLinks ss us = (i : ℕ) → IsLikewise (shape_at ss i) (shape_at us i)

-- the sums are right but from o on
pub record IsRising {T : Type 0} (s : Store T) (w : Own) (o : Option Link) : Type 0 where
  pub counts : IsSummedBut sum_measure (tree_of (shapes_of s)) (λ _. 1) (tree_of (shapes_of s)).count 1 (link_number o)
  pub weighs : IsSummedBut sum_measure (tree_of (shapes_of s)) (owns (shapes_of s)) (weights (shapes_of s)) w.weight (link_number o)
  pub lowest : IsSummedBut lesser (tree_of (shapes_of s)) (ranks (shapes_of s)) (leasts (shapes_of s)) w.rank (link_number o)
  pub linked : IsLinked (tree_of (shapes_of s))
  pub below : IsBelow (tree_of (shapes_of s))
  pub proper : (i : ℕ) → link_number (shape_at (shapes_of s) i).parent ≡ Some i → ⊥
  pub made_here : AreMade s o
  pub made_parent : (i : ℕ) → AreMade s (shape_at (shapes_of s) i).parent

-- one more node, which counts for w
abbrev pub more : Own → Shape → Shape
more w h = record h { count = h.count + 1; weight = h.weight + w.weight; least = min h.least w.rank }

-- each shape is as before, or raised and then no greater than that at o, which is as before
pub record IsRaised (ss us : List Shape) (w : Own) (o : Option Link) : Type 0 where
  pub each : (i : ℕ) → (shape_at us i ≡ shape_at ss i)
      ⊎ ((shape_at us i ≡ more w (shape_at ss i)) × ((x : ℕ) → link_number o ≡ Some x → (shape_at us i).count ≤ (shape_at us x).count))
  pub at : (x : ℕ) → link_number o ≡ Some x → shape_at us x ≡ shape_at ss x

-- how far it is to the top
abbrev pub left_to_rise : List Shape → Option Link → ℕ
left_to_rise ss None = 0
left_to_rise ss (Some l) = suc (2 ^ 63 - (shape_at ss l.number).count)

-- counts and weights have room for one node more of this weight
pub record AreSmall (ss : List Shape) (w : ℕ) : Type 0 where
  pub counts : (i : ℕ) → (shape_at ss i).count < 2 ^ 32 - 1
  pub weights : (i : ℕ) → (shape_at ss i).weight + w < 2 ^ 64
