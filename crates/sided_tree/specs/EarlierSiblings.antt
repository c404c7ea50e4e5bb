-- The siblings of a new node in a part of the order, and those that go before it.
use Rattle.std.specs.Prelude.{Bool, List}
use Rattle.fugue_ids.specs.Identifiers.{Identifier}
use Rattle.fugue_ids.specs.Keys.{Keyed, between, low_ids, rest_of}
use Rattle.fugue_ids.specs.Listed.{HoldsOrigin}
use Rattle.origin_model.specs.declared.operations.node.Node.{Node}
use Rattle.origin_model.specs.sides.Node.{as_op, as_ops, node_order}
use Rattle.origin_model.specs.sides.Slot.{goes_before}
use Rattle.sided_tree.specs.declared.part.Part.{Part}

-- the sibling goes before the new node n
abbrev pub is_earlier_sibling : List Node → Node → Identifier → Bool
is_earlier_sibling ns n = goes_before (node_order ns) (as_ops ns) (as_op n) n.id

-- the elements of a part whose key is at most that of the part
abbrev pub siblings_in : List Keyed → Part → List Identifier
siblings_in es part = low_ids part.key (between part.from part.to es)

-- the part begins after an element whose key is at most that of the part, or at the beginning
abbrev pub BeginsLow : List Keyed → Part → Type 0
BeginsLow es part = HoldsOrigin (low_ids part.key es) part.from

-- it ends before such an element after its beginning, or at the end
abbrev pub EndsLow : List Keyed → Part → Type 0
EndsLow es part = HoldsOrigin (low_ids part.key (rest_of part.from es)) part.to
