-- A place as contracts see it.
use Rattle.std.specs.Prelude.{◌≡◌, ◌<◌, false, true, List, [], ◌∷◌, Some, ℕ, map}
use Rattle.std.specs.List.{All, insert}
use Rattle.fugue_ids.specs.Identifiers.{Identifier}
use Rattle.fugue_ids.specs.Listed.{index_of}
use Rattle.fugue_ids.specs.Runs.{id_after}
use Rattle.origin_model.specs.sides.Keys.{search_key_of}
use Rattle.origin_model.specs.sides.Node.{AreNodes, as_ops, find_node, has_node, node_order}
use Rattle.origin_model.specs.declared.operations.node.Node.{Node}
pub use Rattle.sided_tree.specs.Rows.{next_node}
use Rattle.run_store.specs.Cells.{cell_hiding, cell_ids, cells_hiding}
use Rattle.run_store.specs.declared.cell.Cell.{Cell}

-- what contracts see of a list
pub record Listing : Type 0 where
  -- the elements with their origins, the newest first
  pub nodes : List Node
  -- the elements in order, each with its origins, its scalar, its hidden mark and its key
  pub cells : List Cell

-- the node of a cell
abbrev pub node_of : Cell → Node
node_of c = record { id = c.id; left = c.left; right = c.right }

-- the cell has the origins and the key of its node
pub record IsOfNode (ns : List Node) (c : Cell) : Type 0 where
  pub node : find_node ns c.id ≡ Some (node_of c)
  pub key : c.key ≡ search_key_of (as_ops ns) c.id

-- the cells are the nodes in order, each with the origins and the key of its node
pub record IsInOrder (s : Listing) : Type 0 where
  pub are_nodes : AreNodes s.nodes
  pub in_order : cell_ids s.cells ≡ node_order s.nodes
  pub each : All (IsOfNode s.nodes) s.cells

-- no element
abbrev pub empty_listing : Listing
empty_listing = record { nodes = []; cells = [] }

-- the cell of the newest node, not hidden
abbrev pub newest_cell : Node → List Node → ℕ → Cell
newest_cell n older ch =
    record { id = n.id; left = n.left; right = n.right; ch = ch; hidden = false; key = search_key_of (as_ops (n ∷ older)) n.id }

-- one element more, not hidden, where the order of the nodes has it
abbrev pub with_element : Node → ℕ → Listing → Listing
with_element n ch s = record {
  nodes = n ∷ s.nodes;
  cells = insert s.cells (index_of (node_order (n ∷ s.nodes)) n.id) (newest_cell n s.nodes ch);
}

-- an element for each letter, one after another: n, and then each after the one before it
abbrev pub with_elements : Node → List ℕ → Listing → Listing
with_elements n [] s = s
with_elements n (ch ∷ text) s = with_elements (next_node n) text (with_element n ch s)

-- none of the first k identifiers from this one on is a node's
abbrev pub AreNoNodes : List Node → Identifier → ℕ → Type 0
AreNoNodes ns id k = (j : ℕ) → j < k → has_node ns (id_after id j) ≡ false

-- the first k identifiers from this one on are nodes'
abbrev pub AreAllNodes : List Node → Identifier → ℕ → Type 0
AreAllNodes ns id k = (j : ℕ) → j < k → has_node ns (id_after id j) ≡ true

-- the element x hidden
abbrev pub with_hidden : Identifier → Listing → Listing
with_hidden x s = record { nodes = s.nodes; cells = map (cell_hiding x) s.cells }

-- the elements of the first k identifiers from x on hidden, one after another
abbrev pub with_run_hidden : Identifier → ℕ → Listing → Listing
with_run_hidden x k s = record { nodes = s.nodes; cells = cells_hiding x k s.cells }
