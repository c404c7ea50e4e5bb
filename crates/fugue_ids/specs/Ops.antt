-- What an operation says of itself, and when two operations are the same.
use Rattle.std.specs.Prelude.{Option, Some, None, Bool, false, ◌&&◌, nat_eq}
use Rattle.fugue_ids.specs.Identifiers.{Identifier, id_eq, origin_eq}
use Rattle.fugue_ids.specs.declared.op.Op.{Op}
use Rattle.fugue_ids.specs.declared.op.Op.TheVariants.{Section, Text, Delete, Note}
use Rattle.fugue_ids.specs.declared.op.OpKey.{OpKey}
use Rattle.fugue_ids.specs.declared.op.OpKey.TheVariants.{Own, Target}
use lib.Pointwise.{pointwise}

-- what an operation is looked up by: the identifier of the element or note that it makes; a Delete makes none, and is
-- looked up by its target
abbrev pub key_of : Op → OpKey
key_of (Section id left right title) = Own id
key_of (Text id section left right ch) = Own id
key_of (Delete target) = Target target
key_of (Note id names code body) = Own id

-- an identifier of an operation's own
abbrev pub own_in : OpKey → Option Identifier
own_in (Own id) = Some id
own_in (Target id) = None

-- the element or note that a Delete names
abbrev pub target_in : OpKey → Option Identifier
target_in (Own id) = None
target_in (Target id) = Some id

-- an operation's own identifier; a Delete has none
abbrev pub id_of : Op → Option Identifier
id_of op = own_in (key_of op)

-- the element or note that an operation deletes: only a Delete names one
abbrev pub target_of : Op → Option Identifier
target_of op = target_in (key_of op)

-- the same operation
abbrev pub op_eq : Op → Op → Bool
op_eq (Section i l r t) (Section j m s u) = id_eq i j && origin_eq l m && origin_eq r s && pointwise nat_eq t u
op_eq (Text i p l r c) (Text j q m s d) = id_eq i j && id_eq p q && origin_eq l m && origin_eq r s && nat_eq c d
op_eq (Delete i) (Delete j) = id_eq i j
op_eq (Note i ns c b) (Note j ms d e) = id_eq i j && pointwise id_eq ns ms && nat_eq c d && pointwise nat_eq b e
op_eq _ _ = false
