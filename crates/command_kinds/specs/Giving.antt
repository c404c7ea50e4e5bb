-- What a source gives to a replica that was loaded, as its line reports it.
use Rattle.std.specs.Prelude.{◌≡◌, ◌⊎◌, ℕ, ◌-◌, List, Option, length, drop, Result, Ok, Err, IsErrOf, IsOk}
use Rattle.fugue_ids.specs.declared.op.Op.{Op}
use Rattle.origin_model.specs.operations.History.{accepted}
use Rattle.outer_ports.specs.disk.Disks.{DiskView}
use Rattle.origin_model.specs.edits.State.{State as Replica}
use Rattle.replica_file.specs.Append.{AppendMeets}
use Rattle.replica_file.specs.declared.appending.AppendFault.TheVariants as append_fault
use Rattle.replica_file.specs.declared.load_file.End.{End}
use Rattle.command_kinds.specs.Counts.{counts_text, made_line, revised_text, status_by}
use Rattle.command_kinds.specs.Crashes.{IsFinished}
use Rattle.command_kinds.specs.Findings.{Refuses, Does}
use Rattle.command_kinds.specs.Intake.{ops_in}
use Rattle.command_kinds.specs.Saving.{GivenTo, OpsSource, IsDone, Outcome, StopsSaving, Suffices}
use Rattle.command_kinds.specs.Changes.{Change}
use Rattle.command_kinds.specs.declared.counts.Note.{Note}
use Rattle.command_kinds.specs.declared.counts.Note.TheVariants as note
use Rattle.command_kinds.specs.declared.refusal.Refusal.{Refusal}
use Rattle.command_kinds.specs.declared.refusal.Refusal.TheVariants as refusal
use Rattle.command_kinds.specs.declared.status.Status.{Status}
use Rattle.command_kinds.specs.declared.status.Status.TheVariants as status

-- the line that a note is, and the status that it leads to
abbrev pub note_line : Note → List ℕ
note_line (note.Counted counts) = counts_text counts.tally counts.waiting counts.cursor
note_line (note.Made count) = made_line count
note_line (note.Revised count sections) = revised_text count sections

-- the status of a command that ends with this line
abbrev pub note_status : Note → Status
note_status (note.Counted counts) = status_by counts.tally counts.waiting
note_status (note.Made count) = status.Done
note_status (note.Revised count sections) = status.Done

-- what is to be saved: copies of what was kept, or the operations of a script, which were accepted after the rest, or
-- those of a draft, which are the last so many
abbrev pub to_save : Note → (before : ℕ) → (after : Replica) → (kept : Option (List Op)) → List Op
to_save (note.Counted counts) before after kept = ops_in kept
to_save (note.Made count) before after kept = drop before (accepted after.held.history)
to_save (note.Revised count sections) before after kept = drop (length (accepted after.held.history) - count) (accepted after.held.history)

-- a line reports an outcome
pub record ReportsOutcome (outcome : Outcome) (note : Note) : Type 0 where
  pub line : outcome.line ≡ note_line note
  pub status : outcome.status ≡ note_status note

-- the outcome was given, and what is to be saved is its operations
pub record IsGiven (ops_source : OpsSource) (before after : Replica) (kept : Option (List Op)) (note : Note) : Type 0 where
  pub outcome : Outcome
  pub gives : ops_source.Gives before (Does outcome)
  pub suffices : Suffices before outcome
  pub saved : to_save note (length (accepted before.held.history)) after kept ≡ outcome.saved
  pub noted : ReportsOutcome outcome note

-- what a source gave to a replica, or why it gave nothing
abbrev pub GivesTo : OpsSource → (before after : Replica) → (kept : Option (List Op)) → Result Note Refusal → Type 0
GivesTo ops_source before after kept (Ok note) = IsGiven ops_source before after kept note
GivesTo ops_source before after kept (Err refusal.Outside) = ops_source.Failed × (ops_source.Sure → ⊥)
GivesTo ops_source before after kept (Err refusal.NoMemory) = Unit {0}
GivesTo ops_source before after kept (Err refusal.Words) = ⊥
GivesTo ops_source before after kept (Err why) = ops_source.Gives before (Refuses why)

-- A command whose source came to this answer may end so: it does not do all where nothing was given, and an outside
-- fault that was met is reported.
pub record MayEnd (answer : Result Note Refusal) (end : Status) : Type 0 where
  pub finished : IsFinished end → IsOk answer
  pub blames : IsErrOf answer refusal.Outside → end ≡ status.OutsideFault

-- what was given to a file that is loaded, as its line reports it: the outcome, whose operations were appended, or why it stopped
abbrev pub GivenNoted : OpsSource → Replica → End → Change DiskView → Result Note Refusal → Type 0
GivenNoted ops_source replica end file (Ok note) =
    (outcome : Outcome) × ReportsOutcome outcome note × ops_source.Gives replica (Does outcome) × Suffices replica outcome
    × ((last : End) × AppendMeets end outcome.saved file.old file.new (Ok last))
GivenNoted ops_source replica end file (Err refusal.Outside) =
    (ops_source.Failed × (ops_source.Sure → ⊥) × (file.new ≡ file.old))
    ⊎ ((outcome : Outcome) × ops_source.Gives replica (Does outcome)
    × AppendMeets end outcome.saved file.old file.new (Err append_fault.DiskFault))
GivenNoted ops_source replica end file (Err refusal.NoMemory) = file.new ≡ file.old
GivenNoted ops_source replica end file (Err refusal.Words) = ⊥
GivenNoted ops_source replica end file (Err why) = GivenTo ops_source replica end (Refuses why) × (file.new ≡ file.old)

-- what was given and saved, as its line reports it, or why not
abbrev pub SavesNoted : OpsSource → Change DiskView → Result Note Refusal → Type 0
SavesNoted ops_source file (Ok note) = (outcome : Outcome) × ReportsOutcome outcome note × IsDone ops_source file outcome
SavesNoted ops_source file (Err why) = StopsSaving ops_source file why
