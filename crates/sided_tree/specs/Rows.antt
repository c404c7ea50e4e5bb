-- Nodes that were typed in a row.
use Rattle.std.specs.Prelude.{ℕ, zero, suc, Some, List, ◌∷◌}
use Rattle.fugue_ids.specs.Runs.{next_id}
use Rattle.origin_model.specs.declared.operations.node.Node.{Node}

-- the node that is typed after this one: it has this one as its left origin, and the same right origin
abbrev pub next_node : Node → Node
next_node n = record { id = next_id n.id; left = Some n.id; right = n.right }

-- the nodes with so many more, the newest first: n, and then each after the one before it
abbrev pub run_nodes : Node → ℕ → List Node → List Node
run_nodes n zero ns = ns
run_nodes n (suc k) ns = run_nodes (next_node n) k (n ∷ ns)
