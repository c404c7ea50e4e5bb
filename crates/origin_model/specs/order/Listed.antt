-- The elements of all places in one list, each with its place.
use Rattle.std.specs.Prelude.{◌≡◌, Bool, if◌then◌else◌, not, ◌&&◌, List, [], ◌∷◌, ℕ}
use Rattle.std.specs.Str.{encode_utf8_all}
use Rattle.fugue_ids.specs.Identifiers.{Identifier}
use Rattle.fugue_ids.specs.declared.op.Op.{Op}
use Rattle.origin_model.specs.declared.operations.Place.{Place}
use Rattle.origin_model.specs.declared.order.listing.Listed.{Listed}
use Rattle.origin_model.specs.operations.History.{place_eq, holder}
use Rattle.origin_model.specs.order.Order.{order}
use Rattle.origin_model.specs.order.Printed.{is_hidden, scalar_of}

-- the elements of one place
abbrev pub elements_at : Place → List Listed → List Identifier
elements_at p [] = []
elements_at p (e ∷ es) = if place_eq e.place p then e.id ∷ elements_at p es else elements_at p es

-- the list has the elements of each place in order
abbrev pub ListsAll : List Op → List Listed → Type 0
ListsAll history listed = (p : Place) → elements_at p listed ≡ order p history

-- an element of the list is shown at a place
abbrev pub shows : List Op → Place → Listed → Bool
shows history p e = place_eq e.place p && not (is_hidden history e.id)

-- what an element of the list adds to the bytes of a place
abbrev pub part : (Identifier → List ℕ) → List Op → Place → Listed → List ℕ
part bytes_of history p e = if shows history p e then bytes_of e.id else []

-- the scalar of an element in UTF-8
abbrev pub scalar_bytes_of : List Op → Identifier → List ℕ
scalar_bytes_of history x = encode_utf8_all (scalar_of (holder history x))
