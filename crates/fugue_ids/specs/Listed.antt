-- Identifiers in a list.
use Rattle.std.specs.Prelude.{ℕ, Option, Some, None, List, [], ◌∷◌}
use Rattle.std.specs.List.{Contains, position_or_len}
use Rattle.fugue_ids.specs.Identifiers.{Identifier, id_eq}

-- how many members stand before x: all of them, where x is no member
abbrev pub index_of : List Identifier → Identifier → ℕ
index_of list x = position_or_len (id_eq x) list

-- the start or the end, or a member of the list
abbrev pub HoldsOrigin : List Identifier → Option Identifier → Type 0
HoldsOrigin list None = Unit {0}
HoldsOrigin list (Some x) = Contains list x

-- the last member: none, where there is none
abbrev pub last_before : List Identifier → Option Identifier
last_before [] = None
last_before (e ∷ []) = Some e
last_before (e ∷ f ∷ es) = last_before (f ∷ es)
