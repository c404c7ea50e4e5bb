-- The keys of elements: two numbers that are fixed when an element comes, by which the tree of sides is read off the order.
use Rattle.std.specs.Prelude.{ℕ, suc, ◌-◌, Option, Some, None, List, length, map}
use Rattle.fugue_ids.specs.Identifiers.{Identifier}
use Rattle.fugue_ids.specs.Keys.{Keyed}
use Rattle.fugue_ids.specs.declared.key.Key.{Key}
use Rattle.fugue_ids.specs.declared.op.Op.{Op}
use Rattle.origin_model.specs.order.Order.{lefts, right_beside, rights}
use Rattle.origin_model.specs.sides.Node.{as_ops, node_order}
use Rattle.origin_model.specs.declared.operations.node.Node.{Node}

-- how many elements the chain of left origins down to x has
abbrev pub depth_of : List Op → Identifier → ℕ
depth_of h x = length (lefts h x)

-- how many elements stand above x in its chain of right origins
abbrev pub forest_of : List Op → Identifier → ℕ
forest_of h x = length (rights h x) - 1

-- the key, depth and forest, by which searches find an element of a place
abbrev pub search_key_of : List Op → Identifier → Key
search_key_of h x = record { depth = depth_of h x; forest = forest_of h x }

-- an element with its key
abbrev pub keyed_as : List Op → Identifier → Keyed
keyed_as h x = record { id = x; key = search_key_of h x }

-- elements with their keys
abbrev pub with_keys : List Op → List Identifier → List Keyed
with_keys h xs = map (keyed_as h) xs

-- the nodes in order, with their keys
abbrev pub keyed_order : List Node → List Keyed
keyed_order ns = with_keys (as_ops ns) (node_order ns)

-- the depth of an origin: the start has 0
abbrev pub depth_above : List Op → Option Identifier → ℕ
depth_above h None = 0
depth_above h (Some l) = depth_of h l

-- one more than the forest of a right origin
abbrev pub forest_above : List Op → Option Identifier → ℕ
forest_above h None = 0
forest_above h (Some r) = suc (forest_of h r)

-- the key of a new element with these origins: it is deeper by one than its left origin, and its forest is greater by
-- one than that of its right origin, where that has the same left origin, and otherwise 0
abbrev pub new_key : List Op → (left right : Option Identifier) → Key
new_key h left right = record { depth = suc (depth_above h left); forest = forest_above h (right_beside h left right) }

-- a new node with its key
abbrev pub new_keyed : List Node → Node → Keyed
new_keyed ns n = record { id = n.id; key = new_key (as_ops ns) n.left n.right }
