-- What is shown and printed.
use Rattle.std.specs.Prelude.{Option, Some, Bool, false, not, ◌||◌, List, [], ◌∷◌, ◌++◌, ℕ, filter, codes}
use Rattle.std.specs.List.{flat_map}
use Rattle.std.specs.Str.{encode_utf8_all}
use Rattle.fugue_ids.specs.Identifiers.{Identifier, origin_eq}
use Rattle.fugue_ids.specs.Ops.{target_of}
use Rattle.fugue_ids.specs.declared.op.Op.{Op}
use Rattle.origin_model.specs.declared.operations.Place.{Place}
use Rattle.origin_model.specs.declared.operations.Place.TheVariants.{Catalogue as catalogue, Section as within}
use Rattle.origin_model.specs.operations.History.{holder}
use Rattle.origin_model.specs.order.Order.{order}
use Rattle.fugue_ids.specs.declared.op.Op.TheVariants.{Section, Text}

-- the operation hides x
abbrev pub deletes : Identifier → Op → Bool
deletes x op = origin_eq (target_of op) (Some x)

-- a delete of the list names x
abbrev pub is_hidden : List Op → Identifier → Bool
is_hidden [] x = false
is_hidden (op ∷ ops) x = deletes x op || is_hidden ops x

-- a note is withdrawn: a Delete of the list names it
abbrev pub is_withdrawn : List Op → Identifier → Bool
is_withdrawn ops note = is_hidden ops note

-- the elements of a place that no Delete names, in order
abbrev pub shown : Place → List Op → List Identifier
shown p history = filter (λ x. not (is_hidden history x)) (order p history)

-- the scalar of an element of a section
abbrev pub scalar_of : Option Op → List ℕ
scalar_of (Some (Text id section left right ch)) = ch ∷ []
scalar_of _ = []

-- the title of a section
abbrev pub title_of : Option Op → List ℕ
title_of (Some (Section id left right title)) = title
title_of _ = []

-- what is shown of a section
abbrev pub text : List Op → Identifier → List ℕ
text history s = flat_map (λ x. scalar_of (holder history x)) (shown (within s) history)

-- a hash sign, a space, the title, LF, the text, LF
abbrev pub printed_section : List Op → Identifier → List ℕ
printed_section history s =
    codes "# " ++ encode_utf8_all (title_of (holder history s)) ++ 10 ∷ encode_utf8_all (text history s) ++ 10 ∷ []

-- the shown sections in catalogue order
unfoldable pub manuscript : List Op → List ℕ
manuscript history = flat_map (printed_section history) (shown catalogue history)
