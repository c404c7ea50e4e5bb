-- The commands that make a note: one call on a file's replica makes it, and it is saved.
use Rattle.std.specs.Prelude.{◌≡◌, ℕ, List, [], ◌∷◌, Option, Some, None, Result, Ok, Err}
use Rattle.fugue_ids.specs.Identifiers.{Identifier}
use Rattle.fugue_ids.specs.declared.op.Op.{Op}
use Rattle.origin_model.specs.edits.Effect.{Gains, with_ops}
use Rattle.origin_model.specs.declared.operations.Verdict.TheVariants.{Ready}
use Rattle.origin_model.specs.edits.Noting.{note_by, note_refusal}
use Rattle.origin_model.specs.edits.State.{State as Replica}
use Rattle.origin_model.specs.operations.Verdict.{verdict}
use Rattle.command_kinds.specs.Edit.{made_outcome}
use Rattle.command_kinds.specs.Findings.{Finding, Refuses, Does}
use Rattle.command_kinds.specs.Saving.{OpsSource, Outcome}
use Rattle.command_kinds.specs.declared.refusal.Refusal.{Refusal}
use Rattle.command_kinds.specs.declared.refusal.Refusal.TheVariants as refusal

-- the note that is made on a replica, or why there is none
abbrev pub NoteOn : Type 0
NoteOn = Replica → Finding Op

-- the note, unless it is refused
abbrev pub unless_refused : Option Refusal → Op → Finding Op
unless_refused (Some why) note = Refuses why
unless_refused None note = Does note

-- the note is saved, and noted as one operation made
abbrev pub note_outcome : Replica → Finding Op → Finding Outcome
note_outcome replica (Refuses why) = Refuses why
note_outcome replica (Does note) = Does (made_outcome (with_ops replica (note ∷ [])) (note ∷ []))

-- the words give it, which are always specified
abbrev pub note_source : NoteOn → OpsSource
note_source note_on = record {
  Gives = λ replica found. found ≡ note_outcome replica (note_on replica);
  Specified = Unit {0};
  Failed = ⊥;
  Sure = Unit {0};
}

-- the note was made, and nothing else
pub record MadeNote (found : Finding Op) (old new : Replica) : Type 0 where
  pub named : List Identifier
  pub code : ℕ
  pub body : List ℕ
  pub found_is : found ≡ Does (note_by old named code body)
  pub ready : verdict old.held.history (note_by old named code body) ≡ Ready
  pub allowed : note_refusal old ≡ None
  pub gained : Gains old new (note_by old named code body ∷ [])

-- what came of the call that makes it
abbrev pub NoteComes : Finding Op → (old new : Replica) → Result (Unit {0}) Refusal → Type 0
NoteComes found old new (Ok done) = MadeNote found old new
NoteComes found old new (Err refusal.Outside) = ⊥
NoteComes found old new (Err refusal.NoMemory) = Unit {0}
NoteComes found old new (Err refusal.Words) = ⊥
NoteComes found old new (Err why) = found ≡ Refuses why
