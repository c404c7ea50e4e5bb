-- The first and the last of a list that is low: whose rank is at most a number.
use Rattle.std.specs.Prelude.{ℕ, Bool, false, cond, nat_le, List, [], ◌∷◌, Option, None, Some}
use Rattle.node_rope.specs.declared.turn.Side.{Side}
use Rattle.node_rope.specs.declared.store.Store.{Store}
use Rattle.node_rope.specs.declared.cells.Shape.{Shape}
use Rattle.node_rope.specs.declared.cells.Link.{Link}
use Rattle.node_rope.specs.Made.{shapes_of}
use Rattle.node_rope.specs.Walk.{all_nodes}
use Rattle.node_rope.specs.Sides.{seen, facing_shape}
use Rattle.node_rope.specs.Shapes.{shape_at, link_number, tree_of, ranks}

-- the one, or where there is none, the other
abbrev pub or_else : {X : Type 0} → Option X → Option X → Option X
or_else None other = other
or_else (Some x) other = Some x

module _ {X : Type 0} (rank : X → ℕ) (most : ℕ) where
  -- x, if it is low
  abbrev pub if_low : X → Option X
  if_low x = cond (nat_le (rank x) most) (Some x) None

  abbrev pub first_low : List X → Option X
  first_low [] = None
  first_low (x ∷ xs) = or_else (if_low x) (first_low xs)

  abbrev pub last_low : List X → Option X
  last_low [] = None
  last_low (x ∷ xs) = or_else (last_low xs) (if_low x)

module _ (ss : List Shape) (most : ℕ) where
  -- a node below o is low
  abbrev pub low_at : Option Link → Bool
  low_at None = false
  low_at (Some l) = nat_le (shape_at ss l.number).least most

  -- the first low one of the nodes below o, as they are seen from the side
  abbrev pub low_below : Side → Option Link → Option ℕ
  low_below d o = first_low (ranks ss) most (all_nodes (seen d (tree_of ss)) (link_number o))

  -- the first low one of a node and what is below its other side
  abbrev pub low_from : Side → Option Link → Option ℕ
  low_from d None = None
  low_from d (Some l) = or_else (if_low (ranks ss) most l.number) (low_below d (facing_shape d (shape_at ss l.number)).right)

-- the nodes in order, as they are seen from the side
abbrev pub seen_order : {T : Type 0} → Side → Store T → Option Link → List ℕ
seen_order d s root = all_nodes (seen d (tree_of (shapes_of s))) (link_number root)
