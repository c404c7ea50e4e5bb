-- While the weights above a node are summed anew.
use Rattle.std.specs.Prelude.{◌≡◌, ℕ, ◌+◌, ◌-◌, ◌*◌, ◌<◌, ◌≤◌, min, List, Option, Some}
use Rattle.node_rope.specs.declared.store.Store.{Store}
use Rattle.node_rope.specs.declared.cells.Shape.{Shape}
use Rattle.node_rope.specs.declared.cells.Link.{Link}
use Rattle.node_rope.specs.Made.{KeepsMade, made_count, shapes_of, values_of}
use Rattle.node_rope.specs.Shapes.{shape_at, link_number, weight_at, least_at, AreMade, HasRightLinks, IsTree}

-- the links and the count are the same
pub record IsPlaced (g h : Shape) : Type 0 where
  pub left : h.left ≡ g.left
  pub right : h.right ≡ g.right
  pub parent : h.parent ≡ g.parent
  pub count : h.count ≡ g.count

-- each node has the links and the count that it had; weights and ranks may differ
abbrev pub AreReweighed : List Shape → List Shape → Type 0
AreReweighed ss us = (i : ℕ) → IsPlaced (shape_at ss i) (shape_at us i)

-- all but the weights and ranks is the same
pub record IsStill (g h : Shape) : Type 0 where
  pub left : h.left ≡ g.left
  pub right : h.right ≡ g.right
  pub parent : h.parent ≡ g.parent
  pub key : h.key ≡ g.key
  pub count : h.count ≡ g.count

-- each node is as it was
abbrev pub AreStill : List Shape → List Shape → Type 0
AreStill ss us = (i : ℕ) → IsStill (shape_at ss i) (shape_at us i)

-- each node has the weight and the rank that it had
abbrev pub SameOwns : List Shape → List Shape → Type 0
SameOwns ss us = (i : ℕ) → (shape_at us i).own ≡ (shape_at ss i).own

-- the weights, and the least ranks, are right but at o
abbrev pub IsWeighedBut : List Shape → Option Link → Type 0
IsWeighedBut ss o = (i : ℕ) → (link_number o ≡ Some i → ⊥)
    → (shape_at ss i).weight ≡ weight_at ss (shape_at ss i).left + ((shape_at ss i).own.weight + weight_at ss (shape_at ss i).right)

-- each node but one knows the least rank of its subtree
abbrev pub IsRankedBut : List Shape → Option Link → Type 0
IsRankedBut ss o = (i : ℕ) → (link_number o ≡ Some i → ⊥)
    → (shape_at ss i).least ≡ min (least_at ss (shape_at ss i).left) (min (shape_at ss i).own.rank (least_at ss (shape_at ss i).right))

-- the nodes make one tree below root, and its weights and least ranks are right but at o
pub record IsSoundBut {T : Type 0} (s : Store T) (root o : Option Link) : Type 0 where
  pub tree : IsTree s root (IsWeighedBut (shapes_of s) o) (IsRankedBut (shapes_of s) o)
  pub light : (i : ℕ) → (shape_at (shapes_of s) i).own.weight < 4194305
  pub bound : (i : ℕ) → (shape_at (shapes_of s) i).weight ≤ 4194304 * (shape_at (shapes_of s) i).count
  pub few : made_count s < 4194305
  pub here : AreMade s o

-- all sums of `new` are right, and it is `old` but for these
pub record IsMended {T : Type 0} (old new : Store T) (root : Option Link) : Type 0 where
  pub sound : HasRightLinks new root
  pub still : AreStill (shapes_of old) (shapes_of new)
  pub owns : SameOwns (shapes_of old) (shapes_of new)
  pub values : values_of new ≡ values_of old
  pub count : made_count new ≡ made_count old
  pub kept : KeepsMade old new

-- the node l's weight lacks `more`, and has `less` too much. Its least rank is right
pub record IsOff (ss : List Shape) (less more : ℕ) (l : Link) : Type 0 where
  pub weight : (shape_at ss l.number).weight
      + more ≡ (weight_at ss (shape_at ss l.number).left + ((shape_at ss l.number).own.weight + weight_at ss (shape_at ss l.number).right))
      + less
  pub least : (shape_at ss l.number).least ≡ min (least_at ss (shape_at ss l.number).left)
      (min (shape_at ss l.number).own.rank (least_at ss (shape_at ss l.number).right))

-- the same of o, if it is a node
abbrev pub AreOff : List Shape → ℕ → ℕ → Option Link → Type 0
AreOff ss less more o = (l : Link) → o ≡ Some l → IsOff ss less more l

-- a node whose weight and least rank are those of what is below it
abbrev pub summed_node : List Shape → Shape → Shape
summed_node ss h = record h {
  weight = weight_at ss h.left + (h.own.weight + weight_at ss h.right);
  least = min (least_at ss h.left) (min h.own.rank (least_at ss h.right));
}

-- a node whose weight gains `more` and loses `less`
abbrev pub reweighed_node : ℕ → ℕ → Shape → Shape
reweighed_node less more h = record h { weight = (h.weight + more) - less }
