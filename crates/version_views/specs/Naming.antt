-- When a version is not named.
use Rattle.std.specs.Prelude.{◌≡◌, ◌≢◌, ◌↔◌, ℕ, Some, Result, Err}
use Rattle.origin_model.specs.declared.edit_fault.EditFault.{EditFault}
use Rattle.origin_model.specs.declared.edit_fault.EditFault.TheVariants.{IdsSpent as NoteIdsSpent, NoMemory as NoteNoMemory, NoSection}
use Rattle.origin_model.specs.declared.edit_fault.EditFault.TheVariants.{OutOfRange, TooMany as NoteTooMany}
use Rattle.origin_model.specs.edits.Noting.{note_refusal}
use Rattle.origin_model.specs.edits.State.{State}
use Rattle.version_views.specs.declared.naming.VersionFault.{VersionFault}
use Rattle.version_views.specs.declared.naming.VersionFault.TheVariants.{IdsSpent, NoMemory, TooMany}

-- the fault of the note
abbrev pub as_note_fault : VersionFault → EditFault
as_note_fault (IdsSpent greatest) = NoteIdsSpent greatest
as_note_fault (TooMany held) = NoteTooMany held
as_note_fault NoMemory = NoteNoMemory

-- the fault that a note's one is, where that is of no section and no position
abbrev pub without_position : EditFault → VersionFault
without_position (NoteIdsSpent greatest) = IdsSpent greatest
without_position (NoteTooMany held) = TooMany held
without_position NoSection = NoMemory
without_position OutOfRange = NoMemory
without_position NoteNoMemory = NoMemory

-- each refusal comes exactly where its cause is the first that refuses a note
abbrev pub RefusesVersion : State → Result ℕ VersionFault → Type 0
RefusesVersion s result = (fault : VersionFault) → fault ≢ NoMemory → (result ≡ Err fault) ↔ (note_refusal s ≡ Some (as_note_fault fault))
