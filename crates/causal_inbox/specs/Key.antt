-- What operations are looked up by.
use Rattle.std.specs.Prelude.{Bool, true, false, ◌&&◌, List, ◌∷◌, map}
use Rattle.std.specs.List.{list_any}
use Rattle.fugue_ids.specs.Identifiers.{Identifier, id_eq}
use Rattle.fugue_ids.specs.declared.op.Op.{Op}
use Rattle.fugue_ids.specs.declared.op.OpKey.{OpKey}
use Rattle.fugue_ids.specs.declared.op.OpKey.TheVariants.{Own as OwnKey, Target as TargetKey}
use Rattle.fugue_ids.specs.Ops.{key_of}
use Rattle.origin_model.specs.operations.History.{is_own}
use Rattle.origin_model.specs.operations.Verdict.{names}
use Rattle.origin_model.specs.order.Printed.{deletes}
use Rattle.origin_model.specs.declared.operations.Role.{Role}
use Rattle.causal_inbox.specs.Naming.{is_naming}
use Rattle.causal_inbox.specs.declared.key.Key.{Key}
use Rattle.causal_inbox.specs.declared.key.Kind.{Kind}
use Rattle.causal_inbox.specs.declared.key.Kind.TheVariants.{Own, Target, Named}

-- the key of what makes an element or note
abbrev pub own_key_of : Identifier → Key
own_key_of i = record { id = i; kind = Own }

-- the key of the Delete of an element
abbrev pub key_of_target : Identifier → Key
key_of_target i = record { id = i; kind = Target }

-- the key of those that name an identifier
abbrev pub key_of_naming : Identifier → Key
key_of_naming i = record { id = i; kind = Named }

-- the same kind
abbrev pub kind_eq : Kind → Kind → Bool
kind_eq Own Own = true
kind_eq Target Target = true
kind_eq Named Named = true
kind_eq _ _ = false

-- the same key
abbrev pub key_eq : Key → Key → Bool
key_eq a b = id_eq a.id b.id && kind_eq a.kind b.kind

-- what the operation has to do with the identifier is of the kind
abbrev pub has_kind : Kind → Identifier → Op → Bool
has_kind Own i op = is_own i op
has_kind Target i op = deletes i op
has_kind Named i op = is_naming i op

-- the operation is found by the key
abbrev pub has_key : Key → Op → Bool
has_key key op = has_kind key.kind key.id op

-- the key that equal operations share
abbrev pub as_key : OpKey → Key
as_key (OwnKey i) = own_key_of i
as_key (TargetKey i) = key_of_target i

-- the key that an operation shares with those that are equal to it
abbrev pub main_key : Op → Key
main_key op = as_key (key_of op)

-- the key of a named identifier
abbrev pub name_key : Identifier × Role → Key
name_key n = key_of_naming n.0

-- the keys of an operation: the main one, and one for each identifier that it names
abbrev pub keys_of : Op → List Key
keys_of op = main_key op ∷ map name_key (names op)

-- the key is among the keys
abbrev pub is_among : List Key → Key → Bool
is_among keys key = list_any (λ other. key_eq other key) keys
