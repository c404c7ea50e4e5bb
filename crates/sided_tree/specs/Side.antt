-- On which side a node hangs.
use Rattle.std.specs.Prelude.{◌≡◌, Option, Some, None, true, List}
use Rattle.fugue_ids.specs.Identifiers.{Identifier}
use Rattle.origin_model.specs.sides.Node.{as_ops}
use Rattle.origin_model.specs.order.Order.{has_left}
use Rattle.origin_model.specs.declared.operations.node.Node.{Node}

-- the right origin is a node with the same left origin
abbrev pub HangsLeft : List Node → Option Identifier → Option Identifier → Type 0
HangsLeft ns left None = ⊥
HangsLeft ns left (Some r) = has_left (as_ops ns) r left ≡ true
