-- What a rotation writes.
use Rattle.std.specs.Prelude.{◌≡◌, ℕ, ◌+◌, ◌-◌, ◌<◌, min, Bool, false, cond, eqb, List, slice_set, Option, None, Some}
use Rattle.node_rope.specs.declared.turn.Side.{Side}
use Rattle.node_rope.specs.declared.turn.Side.TheVariants.{Left, Right}
use Rattle.node_rope.specs.declared.cells.Shape.{Shape}
use Rattle.node_rope.specs.declared.cells.Link.{Link}
use Rattle.node_rope.specs.declared.store.Store.{Store}
use Rattle.node_rope.specs.Made.{KeepsMade, made_count, shapes_of, values_of}
use Rattle.node_rope.specs.Shapes.{HasRightLinks, shape_at, link_number, tree_of, weight_at, least_at, nodes_in_order}
use Rattle.node_rope.specs.Sides.{facing_shape}
use Rattle.node_rope.specs.Grown.{with_parent}
use Rattle.node_rope.specs.Walk.{count_of}

-- how many nodes are in the subtree to which a link leads
abbrev pub tree_count_at : List Shape → Option Link → ℕ
tree_count_at ss o = count_of (tree_of ss) (link_number o)

-- the link leads to this number
abbrev pub leads : Option Link → ℕ → Bool
leads None i = false
leads (Some l) i = eqb l.number i

-- the side at which c stands, where left is what stands at the left
abbrev pub side_of : Option Link → ℕ → Side
side_of left c = cond (leads left c) Left Right

-- o, with a link to c in the place of one to p
abbrev pub relinked_child : Option Link → ℕ → Link → Option Link
relinked_child o p c = cond (leads o p) (Some c) o

-- a shape with another child in the place of one
abbrev pub with_swapped_child : Shape → ℕ → Link → Shape
with_swapped_child h p c = record h { left = relinked_child h.left p c; right = relinked_child h.right p c }

-- the shapes, where one has another child
abbrev pub with_child : List Shape → Option Link → ℕ → Link → List Shape
with_child ss None p c = ss
with_child ss (Some g) p c = slice_set ss g.number (with_swapped_child (shape_at ss g.number) p c)

-- the shapes with c, the child of p at the side, above it, and the node over p left as it was. Both are given as seen from there
unfoldable pub lifted_shapes : Side → List Shape → Link → Link → Shape → Shape → List Shape
lifted_shapes d ss p c above below =
    slice_set (slice_set (with_parent ss below.right (Some p)) p.number
    (facing_shape d (record above {
      left = below.right;
      parent = Some c;
      count = (above.count - below.count) + tree_count_at ss below.right;
      weight = (above.weight - below.weight) + weight_at ss below.right;
      least = min (least_at ss below.right) (min above.own.rank (least_at ss above.right));
    })))
    c.number
    (facing_shape d (record below {
      right = Some p;
      parent = above.parent;
      count = above.count;
      weight = above.weight;
      least = above.least;
    }))

-- each node keeps its key and what its value counts for
abbrev pub SameItems : List Shape → List Shape → Type 0
SameItems ss us = (i : ℕ) → ((shape_at us i).key ≡ (shape_at ss i).key) × ((shape_at us i).own ≡ (shape_at ss i).own)

-- u has one sound tree below top, with the items and values of s in the order of s below root, and its links are good
pub record IsRearranged {T : Type 0} (s u : Store T) (root top : Option Link) : Type 0 where
  pub sound : HasRightLinks u top
  pub same_order : nodes_in_order u top ≡ nodes_in_order s root
  pub items : SameItems (shapes_of s) (shapes_of u)
  pub values : values_of u ≡ values_of s
  pub count : made_count u ≡ made_count s
  pub kept : KeepsMade s u

-- c stands above p in the place of p
pub record IsRisen {T : Type 0} (s u : Store T) (root top : Option Link) (p c : Link) : Type 0 where
  pub same : IsRearranged s u root top
  pub taller : (shape_at (shapes_of u) c.number).count ≡ (shape_at (shapes_of s) p.number).count
  pub lower : (shape_at (shapes_of u) p.number).count < (shape_at (shapes_of s) p.number).count
  pub above : (shape_at (shapes_of u) c.number).parent ≡ (shape_at (shapes_of s) p.number).parent
