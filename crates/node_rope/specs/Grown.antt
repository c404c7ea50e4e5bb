-- A node joins the tree of a store.
use Rattle.std.specs.Prelude.{◌≡◌, ◌≢◌, ℕ, ◌+◌, min, List, [], ◌∷◌, ◌++◌, slice_set, Option, None, Some}
use Rattle.fugue_ids.specs.Identifiers.{Identifier}
use Rattle.node_rope.specs.declared.turn.Side.{Side}
use Rattle.node_rope.specs.declared.store.Store.{Store}
use Rattle.node_rope.specs.declared.cells.Shape.{Shape}
use Rattle.node_rope.specs.declared.cells.Link.{Link}
use Rattle.node_rope.specs.declared.cells.Own.{Own}
use Rattle.node_rope.specs.Made.{IsMade, made_count, shapes_of, values_of}
use Rattle.node_rope.specs.Shapes.{HasRightLinks, shape_at, link_number, tree_of, weight_at, least_at}
use Rattle.node_rope.specs.Walk.{count_of}
use Rattle.node_rope.specs.Sides.{facing_shape}

-- the shapes, where the node of the link, if there is one, has another parent
abbrev pub with_parent : List Shape → Option Link → Option Link → List Shape
with_parent ss None q = ss
with_parent ss (Some l) q = slice_set ss l.number (record (shape_at ss l.number) { parent = q })

-- the new node, which takes what was below at's side
abbrev pub new_beside : Side → List Shape → Link → Identifier → Own → Shape
new_beside d ss at key w = let o =
    (facing_shape d (shape_at ss at.number)).left in
    facing_shape d (record {
      key = key;
      left = o;
      right = None;
      parent = Some at;
      count = count_of (tree_of ss) (link_number o) + 1;
      weight = weight_at ss o + w.weight;
      least = min (least_at ss o) w.rank;
      own = w;
    })

-- the shapes after a new one came beside a node
unfoldable pub joined_beside : Side → List Shape → Link → Link → Shape → List Shape
joined_beside d ss at l h =
    slice_set (with_parent (ss ++ h ∷ []) (facing_shape d (shape_at ss at.number)).left (Some l)) at.number
    (facing_shape d (record (facing_shape d (shape_at ss at.number)) { left = Some l }))

-- the store u has one more node than s
pub record IsGrown {T : Type 0} (s u : Store T) (root : Option Link) (key : Identifier) (w : Own) (value : T) (l : Link) : Type 0 where
  pub sound : HasRightLinks u root
  pub number : l.number ≡ made_count s
  pub made : IsMade u l
  pub count : made_count u ≡ made_count s + 1
  pub values : values_of u ≡ values_of s ++ value ∷ []
  pub key_here : (shape_at (shapes_of u) l.number).key ≡ key
  pub own_here : (shape_at (shapes_of u) l.number).own ≡ w
  pub keys : (i : ℕ) → i ≢ l.number → (shape_at (shapes_of u) i).key ≡ (shape_at (shapes_of s) i).key
  pub owns : (i : ℕ) → i ≢ l.number → (shape_at (shapes_of u) i).own ≡ (shape_at (shapes_of s) i).own
