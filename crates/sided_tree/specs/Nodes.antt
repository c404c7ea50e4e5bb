-- The nodes of a place, kept as a map from identifiers to origins.
use Rattle.std.specs.Prelude.{◌≡◌, List, Some, option_map}
use Rattle.std.specs.FinMap.{FinMap, get}
use Rattle.fugue_ids.specs.Identifiers.{Identifier, id_cmp}
use Rattle.fugue_ids.specs.Runs.{id_after}
use Rattle.origin_model.specs.sides.Node.{find_node}
use Rattle.origin_model.specs.declared.operations.node.Node.{Node}
use Rattle.stretch_map.specs.declared.follows.Typed.{Typed}

-- the node of an identifier with these origins
abbrev pub node_with : Identifier → Typed → Node
node_with x t = record { id = x; left = t.left; right = t.right }

-- the map has exactly the nodes of the list
abbrev pub IsNodeMap : FinMap id_cmp Typed → List Node → Type 0
IsNodeMap m ns = (x : Identifier) → option_map (node_with x) (get m x) ≡ find_node ns x

-- the node was typed after the one before it: that one is its left origin, and the two have the same right origin
pub record IsTyped (ns : List Node) (n : Node) : Type 0 where
  pub before : Node
  pub held : find_node ns before.id ≡ Some before
  pub next : id_after before.id 1 ≡ n.id
  pub left : n.left ≡ Some before.id
  pub right : n.right ≡ before.right
