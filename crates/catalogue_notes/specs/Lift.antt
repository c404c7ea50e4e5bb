-- The Sections and the valid moves of a history, and the valid claims: each is judged by the operations before it. A
-- history is newest first.
use Rattle.std.specs.Prelude.{ℕ, max, Option, Some, None, Bool, true, false, if◌then◌else◌, ◌&&◌, List, [], ◌∷◌, ◌++◌, map, codes}
use Rattle.std.specs.Prelude.{option_to_list, option_map}
use Rattle.fugue_ids.specs.Identifiers.{Identifier}
use Rattle.fugue_ids.specs.declared.op.Op.{Op}
use Rattle.fugue_ids.specs.declared.op.Op.TheVariants.{Section, Text, Delete, Note}
use Rattle.origin_model.specs.declared.operations.Role.TheVariants.{Section as SectionRole}
use Rattle.origin_model.specs.operations.History.{holder, holds}
use Rattle.origin_model.specs.operations.Verdict.{fits}
use Rattle.catalogue_notes.specs.Claims.{Claim, Move, Retitle, move_in, retitle_in}

-- x is held by a Section
abbrev pub is_section : List Op → Identifier → Bool
is_section h x = elim (holder h x) [ None ↦ false | Some op ↦ fits SectionRole op ]

-- a value that passes the test
abbrev pub passing : {X : Type 0} → (X → Bool) → Option X → Option X
passing test None = None
passing test (Some x) = if test x then Some x else None

-- the origin is the start or the end, or stands among what was lifted
abbrev pub is_present : List Op → Option Identifier → Bool
is_present lifted None = true
is_present lifted (Some o) = holds lifted o

-- a move is valid where its section is a Section, and each origin a Section or a valid move
abbrev pub is_valid : List Op → List Op → Move → Bool
is_valid older lifted m = is_section older m.section && (is_present lifted m.value.left && is_present lifted m.value.right)

-- a retitle is valid where its section is a Section
abbrev pub is_valid_title : List Op → Retitle → Bool
is_valid_title older r = is_section older r.section

-- a move as a Section
abbrev pub as_section : Move → Op
as_section m = Section m.id m.value.left m.value.right (codes "-")

-- what is lifted of an operation: a Section as it is, and a valid move as a Section
abbrev pub lifted_of : List Op → List Op → Op → Option Op
lifted_of older lifted (Section id left right title) = Some (Section id left right title)
lifted_of older lifted (Text id section left right ch) = None
lifted_of older lifted (Delete target) = None
lifted_of older lifted (Note id named code body) =
    option_map as_section (passing (is_valid older lifted) (move_in (Note id named code body)))

-- the Sections and the valid moves of a history, as Sections
unfoldable pub lift : List Op → List Op
lift [] = []
lift (op ∷ older) = let lifted = lift older in option_to_list (lifted_of older lifted op) ++ lifted

-- the valid claims of a history, the newest first: `says` what an operation says, and `test` whether that is valid after those before it
unfoldable pub claims : {V : Type 0} → (Op → Option (Claim V)) → (List Op → Claim V → Bool) → List Op → List (Claim V)
claims says test [] = []
claims says test (op ∷ older) = option_to_list (passing (test older) (says op)) ++ claims says test older

-- the valid moves of a history
abbrev pub moves : List Op → List Move
moves h = claims move_in (λ older m. is_valid older (lift older) m) h

-- the valid retitles of a history
abbrev pub retitles : List Op → List Retitle
retitles h = claims retitle_in is_valid_title h

-- the greatest number: 0 where there is none
abbrev pub greatest : List ℕ → ℕ
greatest [] = 0
greatest (n ∷ ns) = max n (greatest ns)

-- the greatest stamp of a valid move or retitle, withdrawn ones too
abbrev pub stamp : List Op → ℕ
stamp h = max (greatest (map (λ (m : Move). m.stamp) (moves h))) (greatest (map (λ (r : Retitle). r.stamp) (retitles h)))
