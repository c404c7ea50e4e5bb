-- The elements of one place with their origins, and nothing else: the order depends on these alone.
use Rattle.std.specs.Prelude.{◌≡◌, Option, Some, None, is_some, Bool, true, false, if◌then◌else◌, List, [], ◌∷◌}
use Rattle.fugue_ids.specs.Identifiers.{Identifier, id_eq}
use Rattle.fugue_ids.specs.declared.op.Op.{Op}
use Rattle.fugue_ids.specs.declared.op.Op.TheVariants.{Section}
use Rattle.origin_model.specs.operations.History.{left_of, right_of, element_of}
use Rattle.origin_model.specs.order.Order.{order}
use Rattle.origin_model.specs.declared.operations.Place.{Place}
use Rattle.origin_model.specs.declared.operations.Place.TheVariants.{Catalogue as catalogue}
use Rattle.origin_model.specs.declared.operations.node.Node.{Node}

-- one more node, where the operation is an element
abbrev pub with_node : Option Identifier → Op → List Node → List Node
with_node None op ns = ns
with_node (Some x) op ns = record { id = x; left = left_of op; right = right_of op } ∷ ns

-- the nodes of a place, the newest first
abbrev pub nodes : Place → List Op → List Node
nodes p [] = []
nodes p (op ∷ older) = with_node (element_of p op) op (nodes p older)

-- the node with this identifier
abbrev pub find_node : List Node → Identifier → Option Node
find_node [] x = None
find_node (n ∷ ns) x = if id_eq n.id x then Some n else find_node ns x

-- the identifier is a node's
abbrev pub has_node : List Node → Identifier → Bool
has_node ns x = is_some (find_node ns x)

-- the origin is the start or the end, or a node's identifier
abbrev pub has_origin : List Node → Option Identifier → Bool
has_origin ns None = true
has_origin ns (Some x) = has_node ns x

-- the node is new, and its origins are there
pub record IsNew (ns : List Node) (n : Node) : Type 0 where
  pub fresh : has_node ns n.id ≡ false
  pub left : has_origin ns n.left ≡ true
  pub right : has_origin ns n.right ≡ true

-- each node was new, and its origins were there, when it came
abbrev pub AreNodes : List Node → Type 0
AreNodes [] = Unit {0}
AreNodes (n ∷ ns) = IsNew ns n × AreNodes ns

-- a node as an operation
abbrev pub as_op : Node → Op
as_op n = Section n.id n.left n.right []

-- the nodes as a history
abbrev pub as_ops : List Node → List Op
as_ops [] = []
as_ops (n ∷ ns) = as_op n ∷ as_ops ns

-- the nodes in order
abbrev pub node_order : List Node → List Identifier
node_order ns = order catalogue (as_ops ns)
