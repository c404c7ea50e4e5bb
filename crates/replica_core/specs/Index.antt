-- Where accepted operations are found: the positions of those that have identifiers, and of the Sections and Notes.
use Rattle.std.specs.Prelude.{◌≡◌, ℕ, Bool, true, false, if◌then◌else◌, Option, Some, None, IfSome, List, [], ◌∷◌, ◌++◌, length, option_map}
use Rattle.std.specs.Prelude.{option_and_then, slice_get}
use Rattle.std.specs.FinMap.{FinMap, get}
use Rattle.fugue_ids.specs.Identifiers.{Identifier, id_cmp}
use Rattle.fugue_ids.specs.Ops.{id_of}
use Rattle.fugue_ids.specs.declared.op.Op.{Op}
use Rattle.fugue_ids.specs.declared.op.Op.TheVariants.{Section, Text, Delete, Note}
use Rattle.origin_model.specs.operations.History.{is_own}
use Rattle.stretch_map.specs.Rules.{later, with_run}
use Rattle.stretch_map.specs.declared.follows.Position.{Position}

-- the position of the newest operation that passes the test: how many are older
abbrev pub newest_position : (Op → Bool) → List Op → Option ℕ
newest_position test [] = None
newest_position test (op ∷ older) = if test op then Some (length older) else newest_position test older

-- a position in the history
abbrev pub as_position : ℕ → Position
as_position k = record { at = k }

-- each identifier has the position of the operation of the history that has it
abbrev pub ArePositions : FinMap id_cmp Position → List Op → Type 0
ArePositions positions history = (x : Identifier) → get positions x ≡ option_map as_position (newest_position (is_own x) history)

-- the map with a position for each of n identifiers that follow one another, the first at the position k
abbrev pub with_positions : Identifier → (k n : ℕ) → FinMap id_cmp Position → FinMap id_cmp Position
with_positions first k n m = with_run (λ first p j. later p j) first (as_position k) n m

-- the identifier of the operation, if it has one, has no position yet
abbrev pub IsUnnoted : FinMap id_cmp Position → Op → Type 0
IsUnnoted positions op = IfSome (id_of op) (λ x. get positions x ≡ None)

-- the operation is a Section or a Note
abbrev pub is_section_or_note : Op → Bool
is_section_or_note (Section id left right title) = true
is_section_or_note (Text id section left right ch) = false
is_section_or_note (Delete target) = false
is_section_or_note (Note id named code body) = true

-- the Section or Note at a position of a list, if one stands there
abbrev pub if_section_or_note : Op → Option Op
if_section_or_note op = if is_section_or_note op then Some op else None

-- the operation at the position, where it is one of these
abbrev pub section_or_note_at : List Op → ℕ → Option Op
section_or_note_at ops position = option_and_then if_section_or_note (slice_get ops position)

-- one position, or none
abbrev pub position_if : Bool → ℕ → List ℕ
position_if b k = if b then k ∷ [] else []

-- the positions of the Sections and Notes, ascending: how many operations are older than each
abbrev pub sections_and_notes : List Op → List ℕ
sections_and_notes [] = []
sections_and_notes (op ∷ older) = sections_and_notes older ++ position_if (is_section_or_note op) (length older)
