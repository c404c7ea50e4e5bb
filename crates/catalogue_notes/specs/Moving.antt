-- What a move and a retitle make, and when there is none. Sections and places count from 0.
use Rattle.std.specs.Prelude.{◌≡◌, ◌≢◌, ◌↔◌, ◌⊎◌, ℕ, ◌+◌, ◌-◌, ◌<◌, ◌^◌, nat_eq, nat_lt, Bool, true, false, Option, Some, None}
use Rattle.std.specs.Prelude.{if◌then◌else◌, Result, Err, IfSome, List, [], ◌∷◌, insert, length, option_map, slice_get}
use Rattle.std.specs.Option.{option_or}
use Rattle.std.specs.Str.{chars, encode_utf8_all}
use Rattle.fugue_ids.specs.Identifiers.{Identifier}
use Rattle.fugue_ids.specs.declared.op.Op.{Op}
use Rattle.origin_model.specs.declared.edit_fault.EditFault.{EditFault}
use Rattle.origin_model.specs.declared.edit_fault.EditFault.TheVariants.{NoSection as EditNoSection, OutOfRange as EditOutOfRange}
use Rattle.origin_model.specs.declared.edit_fault.EditFault.TheVariants.{IdsSpent as EditIdsSpent, TooMany as EditTooMany}
use Rattle.origin_model.specs.declared.edit_fault.EditFault.TheVariants.{NoMemory as EditNoMemory}
use Rattle.origin_model.specs.edits.Effect.{Gains}
use Rattle.origin_model.specs.edits.Noting.{note_by, note_refusal}
use Rattle.origin_model.specs.edits.State.{State}
use Rattle.catalogue_notes.specs.Arranged.{arranged, heading}
use Rattle.catalogue_notes.specs.Claims.{is_title}
use Rattle.catalogue_notes.specs.Laws.{IsMoved, IsRetitled}
use Rattle.catalogue_notes.specs.Lift.{stamp}
use Rattle.catalogue_notes.specs.Making.{move_body, move_names, origins_for, retitle_body, without_member}
use Rattle.catalogue_notes.specs.declared.limits.TheConstants.{MOVE_CODE, RETITLE_CODE}
use Rattle.catalogue_notes.specs.declared.moving.MoveFault.{MoveFault}
use Rattle.catalogue_notes.specs.declared.moving.Plan.{Plan}
use Rattle.catalogue_notes.specs.declared.moving.MoveFault.TheVariants.{NoSection, NoPlace, StampsSpent, IdsSpent, TooMany, NoMemory}

-- the section that stands at k
abbrev pub section_placed : State → ℕ → Option Identifier
section_placed s k = slice_get (arranged s.held.history) k

-- a fault of a note, as a move tells it
abbrev pub as_move_fault : EditFault → MoveFault
as_move_fault (EditIdsSpent counter) = IdsSpent counter
as_move_fault (EditTooMany held) = TooMany held
as_move_fault EditNoSection = NoMemory
as_move_fault EditOutOfRange = NoMemory
as_move_fault EditNoMemory = NoMemory

-- there is no such section
abbrev pub section_cause : State → ℕ → Option MoveFault
section_cause s k = if nat_lt k (length (arranged s.held.history)) then None else Some NoSection

-- there is no such section, or no such place
abbrev pub place_cause : State → (k j : ℕ) → Option MoveFault
place_cause s k j = option_or (section_cause s k) (if nat_lt j (length (arranged s.held.history)) then None else Some NoPlace)

-- the greatest stamp there is was given
abbrev pub stamps_cause : State → Option MoveFault
stamps_cause s = if nat_eq (stamp s.held.history) (2 ^ 32 - 1) then Some StampsSpent else None

-- the greatest stamp was given, or one note more is refused
abbrev pub note_cause : State → Option MoveFault
note_cause s = option_or (stamps_cause s) (option_map as_move_fault (note_refusal s))

-- why there is no such move, by the first cause that there is
abbrev pub move_refusal : State → (k j : ℕ) → Option MoveFault
move_refusal s k j = option_or (place_cause s k j) (note_cause s)

-- why there is no such retitle, by the first cause that there is
abbrev pub retitle_refusal : State → ℕ → Option MoveFault
retitle_refusal s k = option_or (section_cause s k) (note_cause s)

-- a section or a place is not there
abbrev pub is_absence : MoveFault → Bool
is_absence NoSection = true
is_absence NoPlace = true
is_absence StampsSpent = false
is_absence (IdsSpent counter) = false
is_absence (TooMany held) = false
is_absence NoMemory = false

-- a section or a place that is not there is reported exactly where that is the cause
abbrev pub TellsAbsence : Option MoveFault → Result ℕ MoveFault → Type 0
TellsAbsence cause result = (fault : MoveFault) → is_absence fault ≡ true → (result ≡ Err fault) ↔ (cause ≡ Some fault)

-- a refusal comes with its cause alone, and where there is a cause, its refusal comes, or an allocation failure
pub record RefusesFor (cause : Option MoveFault) (result : Result ℕ MoveFault) : Type 0 where
  pub only : (fault : MoveFault) → fault ≢ NoMemory → result ≡ Err fault → cause ≡ Some fault
  pub always : IfSome cause (λ fault. (result ≡ Err fault) ⊎ (result ≡ Err NoMemory))

-- the note of a move
abbrev pub move_by : State → Identifier → (k j : ℕ) → Op
move_by s section k j =
    note_by s (move_names section (origins_for s.held.history k j)) MOVE_CODE
    (move_body (stamp s.held.history + 1) (origins_for s.held.history k j))

-- a move was made, and the section stands where it was asked
pub record IsMoveMade (old new : State) (k j n : ℕ) : Type 0 where
  pub count : n ≡ 1
  pub section : Identifier
  pub placed : section_placed old k ≡ Some section
  pub gained : Gains old new (move_by old section k j ∷ [])
  pub lands : arranged new.held.history ≡ insert (without_member (arranged old.held.history) k) j section
  pub moved : IsMoved old.held.history (move_by old section k j) section k j

-- the note of a retitle: the title goes in UTF-8
abbrev pub retitle_by : State → Identifier → List ℕ → Op
retitle_by s section title = note_by s (section ∷ []) RETITLE_CODE (retitle_body (stamp s.held.history + 1) (encode_utf8_all title))

-- a retitle was made, and the section has the title
pub record IsRetitleMade (old new : State) (k : ℕ) (title : List ℕ) (n : ℕ) : Type 0 where
  pub count : n ≡ 1
  pub section : Identifier
  pub placed : section_placed old k ≡ Some section
  pub gained : Gains old new (retitle_by old section title ∷ [])
  pub titled : heading new.held.history section ≡ title
  pub retitled : IsRetitled old.held.history (retitle_by old section title) section title

-- what moves the section that stands at k to j
pub record IsMovePlan (s : State) (k j : ℕ) (plan : Plan) : Type 0 where
  pub section : Identifier
  pub placed : section_placed s k ≡ Some section
  pub place : j < length (arranged s.held.history)
  pub left_over : stamp s.held.history + 1 < 2 ^ 32
  pub names_are : plan.names ≡ move_names section (origins_for s.held.history k j)
  pub body_is : plan.body ≡ move_body (stamp s.held.history + 1) (origins_for s.held.history k j)

-- what retitles the section that stands at k
pub record IsRetitlePlan (s : State) (k : ℕ) (title : List ℕ) (plan : Plan) : Type 0 where
  pub section : Identifier
  pub placed : section_placed s k ≡ Some section
  pub left_over : stamp s.held.history + 1 < 2 ^ 32
  pub is_text : is_title (encode_utf8_all title) ≡ true
  pub scalars : chars (encode_utf8_all title) ≡ title
  pub names_are : plan.names ≡ section ∷ []
  pub body_is : plan.body ≡ retitle_body (stamp s.held.history + 1) (encode_utf8_all title)

-- a refusal of the note, as a move tells it
pub record NoteRefusesAs (s : State) (result : Result ℕ MoveFault) : Type 0 where
  pub only : (fault : MoveFault) → fault ≢ NoMemory → result ≡ Err fault → option_map as_move_fault (note_refusal s) ≡ Some fault
  pub always : (fault : MoveFault) → option_map as_move_fault (note_refusal s) ≡ Some fault → result ≡ Err fault
