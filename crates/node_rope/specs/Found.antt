-- Where a unit of weight stands.
use Rattle.std.specs.Prelude.{◌≡◌, ℕ, ◌+◌, ◌<◌, ◌⊎◌, List, [], ◌∷◌, ◌++◌, slice_get, Option}
use Rattle.node_rope.specs.declared.store.Store.{Store}
use Rattle.node_rope.specs.declared.cells.Shape.{Shape}
use Rattle.node_rope.specs.declared.cells.Link.{Link}
use Rattle.node_rope.specs.Made.{shapes_of}
use Rattle.node_rope.specs.Shapes.{shape_at, link_number, tree_of, weigh, AreMade}
use Rattle.node_rope.specs.Walk.{all_nodes}

-- x stands in xs, and o is what stands after it
pub record IsFollowed (xs : List ℕ) (x : ℕ) (o : Option ℕ) : Type 0 where
  pub front : List ℕ
  pub back : List ℕ
  pub split : xs ≡ front ++ x ∷ back
  pub next : o ≡ slice_get back 0

-- the unit w of the nodes xs is the unit r of l
pub record IsFound (ss : List Shape) (xs : List ℕ) (w : ℕ) (l : Link) (r : ℕ) : Type 0 where
  pub front : List ℕ
  pub back : List ℕ
  pub split : xs ≡ front ++ l.number ∷ back
  pub before : w ≡ weigh ss front + r
  pub inside : r < (shape_at ss l.number).own.weight

-- in the nodes xs the unit w is the unit r of the subtree cur, or of what stands after it, and then nothing does; size counts units
pub record IsReached {T : Type 0} (size : List ℕ → ℕ) (s : Store T) (xs : List ℕ) (w : ℕ) (cur : Option Link) (r : ℕ) : Type 0 where
  pub front : List ℕ
  pub back : List ℕ
  pub split : xs ≡ front ++ (all_nodes (tree_of (shapes_of s)) (link_number cur) ++ back)
  pub before : w ≡ size front + r
  pub here : (r < size (all_nodes (tree_of (shapes_of s)) (link_number cur))) ⊎ (back ≡ [])
  pub made : AreMade s cur
