-- A node and a tree as they are seen from a side.
use Rattle.node_rope.specs.declared.turn.Side.{Side}
use Rattle.node_rope.specs.declared.turn.Side.TheVariants.{Left, Right}
use Rattle.std.specs.Prelude.{ℕ, List}
use Rattle.node_rope.specs.declared.cells.Shape.{Shape}
use Rattle.node_rope.specs.Walk.{Tree, with_node_before, after, mirror}

-- left for right
abbrev pub mirrored_shape : Shape → Shape
mirrored_shape h = record h { left = h.right; right = h.left }

-- what stands at the side is the left
abbrev pub facing_shape : Side → Shape → Shape
facing_shape Left h = h
facing_shape Right h = mirrored_shape h

-- the tree, or its mirror image
abbrev pub seen : Side → Tree → Tree
seen Left t = t
seen Right t = mirror t

-- n at the side of y
abbrev pub beside : Side → ℕ → ℕ → ℕ → List ℕ
beside Left = with_node_before
beside Right = after
