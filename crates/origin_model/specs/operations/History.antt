-- Operations, looked up in a history. A history is the list of the accepted operations, the newest first.
use Rattle.std.specs.Prelude.{◌≡◌, ◌≢◌, Option, Some, None, is_some, Bool, true, false, if◌then◌else◌, ◌||◌, List, [], ◌∷◌, reverse}
use Rattle.fugue_ids.specs.Identifiers.{Identifier, id_eq, origin_eq}
use Rattle.fugue_ids.specs.Ops.{id_of, op_eq}
use Rattle.fugue_ids.specs.declared.op.Op.{Op}
use Rattle.fugue_ids.specs.declared.op.Op.TheVariants.{Section, Text}
use Rattle.origin_model.specs.declared.operations.node.Node.{Node}
use Rattle.origin_model.specs.declared.operations.Place.{Place}
use Rattle.origin_model.specs.declared.operations.Place.TheVariants.{Catalogue as catalogue, Section as within}

-- the accepted operations in the order in which they were accepted
abbrev pub accepted : List Op → List Op
accepted history = reverse history

-- where the element of an operation stands, and its origins; a Delete and a Note have none
abbrev pub element : Op → Option (Place × Node)
element (Section id left right title) = Some (catalogue, record { id = id; left = left; right = right })
element (Text id section left right ch) = Some (within section, record { id = id; left = left; right = right })
element _ = None

-- the origins of an element
abbrev pub left_of : Op → Option Identifier
left_of op = elim (element op) [ None ↦ None | Some e ↦ e.1.left ]

-- the right origin of an element's operation
abbrev pub right_of : Op → Option Identifier
right_of op = elim (element op) [ None ↦ None | Some e ↦ e.1.right ]

-- where an operation stands; a Delete and a Note stand nowhere
abbrev pub place : Op → Option Place
place op = elim (element op) [ None ↦ None | Some e ↦ Some e.0 ]

-- whether two places are one
abbrev pub place_eq : Place → Place → Bool
place_eq catalogue catalogue = true
place_eq catalogue (within t) = false
place_eq (within s) catalogue = false
place_eq (within s) (within t) = id_eq s t

-- the operation stands in the place
abbrev pub stands_at : Place → Op → Bool
stands_at p op = elim (place op) [ None ↦ false | Some q ↦ place_eq q p ]

-- the element that an operation adds to a place
abbrev pub element_of : Place → Op → Option Identifier
element_of p op = if stands_at p op then id_of op else None

-- the operation has this identifier of its own
abbrev pub is_own : Identifier → Op → Bool
is_own i op = origin_eq (id_of op) (Some i)

-- the operations have no identifier in common
abbrev pub HaveOtherIds : Op → Op → Type 0
HaveOtherIds a b = (i : Identifier) → id_of a ≡ Some i → id_of b ≢ Some i

-- the operation of the history whose own identifier is i
abbrev pub holder : List Op → Identifier → Option Op
holder [] i = None
holder (op ∷ older) i = if is_own i op then Some op else holder older i

-- an operation of the history has the identifier i
abbrev pub holds : List Op → Identifier → Bool
holds history i = is_some (holder history i)

-- the operation is in the list
abbrev pub has_op : List Op → Op → Bool
has_op [] op = false
has_op (o ∷ ops) op = op_eq o op || has_op ops op
