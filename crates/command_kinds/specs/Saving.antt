-- The commands that load a file, take something in, and save what came of it in one batch.
use Rattle.std.specs.Prelude.{◌≡◌, ◌≢◌, ◌⊎◌, ℕ, ◌+◌, List, [], ◌∷◌, length, true, Result, Ok, Err, IfSome, Some}
use Rattle.fugue_ids.specs.Causes.{Faulted}
use Rattle.fugue_ids.specs.Outs.{OutView}
use Rattle.fugue_ids.specs.declared.op.Op.{Op}
use Rattle.origin_model.specs.frames.Framings.{frames}
use Rattle.origin_model.specs.taking.Taking.{MeetsNoLimit, Held, held_from}
use Rattle.outer_ports.specs.Sources.{SourceView}
use Rattle.outer_ports.specs.disk.Disks.{DiskView}
use Rattle.outer_ports.specs.disk.Moments.{past_after_step}
use Rattle.outer_ports.specs.disk.States.{durable}
use Rattle.origin_model.specs.edits.State.{State as Replica}
use Rattle.replica_file.specs.Append.{IsTooLong, after_gate}
use Rattle.replica_file.specs.Gates.{gate_opened}
use Rattle.replica_file.specs.declared.load_file.End.{End}
use Rattle.command_kinds.specs.Crashes.{IsFinished, NeverTorn}
use Rattle.command_kinds.specs.Files.{FileFinds, FileHolds, FileRefuses, GainsAllOrNone, AreSavedOps, KeepsFile, LoadFailed}
use Rattle.command_kinds.specs.Findings.{Basis, Finding, Refuses, Does, IsDecided, WhereSpecified}
use Rattle.command_kinds.specs.Refusal.{status_of}
use Rattle.command_kinds.specs.Changes.{Change, DiskBlameless, DiskCountsNoFault, HasDiskRoom, IsSpecified, SourceBlameless, change}
use Rattle.command_kinds.specs.declared.refusal.Refusal.{Refusal}
use Rattle.command_kinds.specs.declared.refusal.Refusal.TheVariants as refusal
use Rattle.command_kinds.specs.declared.status.Status.{Status}
use Rattle.command_kinds.specs.Acts.{Act, IsDecidedBy, NeverOutside, Performs}

-- what a command does where nothing fails
pub record Outcome : Type 0 where
  -- the operations that are saved, in order
  pub saved : List Op
  -- the state to which the replica comes
  pub held : Held
  -- the line of the notes
  pub line : List ℕ
  pub status : Status

-- the other object of a command, which gives what is taken in
pub record OpsSource : Type 1 where
  -- what it gives to a replica: a refusal, or the outcome
  pub Gives : Replica → Finding Outcome → Type 0
  -- it is specified
  pub Specified : Type 0
  -- a call on it failed
  pub Failed : Type 0
  -- no call on it fails
  pub Sure : Type 0

-- a source that is specified gives one thing
abbrev pub GivesOnce : OpsSource → Type 0
GivesOnce ops_source = ops_source.Specified → (replica : Replica) (one two : Finding Outcome) → ops_source.Gives replica one
    → ops_source.Gives replica two
    → one ≡ two

-- what a source gives to a replica whose file ends there: what it has saved is refused where that is no batch
abbrev pub GivenTo : OpsSource → Replica → End → Finding Outcome → Type 0
GivenTo ops_source replica end (Refuses why) =
    ops_source.Gives replica (Refuses why)
    ⊎ ((why ≡ refusal.BatchTooLong) × (outcome : Outcome) × ops_source.Gives replica (Does outcome) × IsTooLong end outcome.saved)
GivenTo ops_source replica end (Does outcome) = ops_source.Gives replica (Does outcome) × (IsTooLong end outcome.saved → ⊥)

-- what the file and the source lead to: the file is refused, or what is given to it
abbrev pub SavingFound : OpsSource → DiskView → Finding Outcome → Type 0
SavingFound ops_source file found = FileFinds (GivenTo ops_source) file found

-- the room of a file that is loaded, and gains these operations
abbrev pub room_to_save : List Op → ℕ
room_to_save [] = 1
room_to_save (op ∷ ops) = length (frames (op ∷ ops)) + 6

-- the room, in bytes and calls, that a file needs for what a command found to save
abbrev pub room_needed : Finding Outcome → ℕ
room_needed (Refuses why) = 1
room_needed (Does outcome) = room_to_save outcome.saved

-- The outcome came, and its operations were saved: a later load comes to its state.
pub record IsDone (ops_source : OpsSource) (file : Change DiskView) (outcome : Outcome) : Type 0 where
  pub replica : Replica
  pub end : End
  pub holds : FileHolds file.old replica end
  pub gives : ops_source.Gives replica (Does outcome)
  pub fits : IsTooLong end outcome.saved → ⊥
  pub saves : IfSome file.old.past (λ h. AreSavedOps outcome.saved h file.new.past)
  -- the file was settled, and then one batch was appended where its meaning ends, or none
  pub none : outcome.saved ≡ [] → file.new.past ≡ past_after_step durable file.old.past
  pub batch : outcome.saved ≢ [] → file.new.past ≡ gate_opened end.at (after_gate outcome.saved) (past_after_step durable file.old.past)
  pub later : (last : End) × FileHolds file.new (record replica { held = outcome.held }) last
  pub counts_no_fault : DiskCountsNoFault (room_to_save outcome.saved) file

-- a call on the file failed while it gained the operations: it has all of them or none
pub record SaveFailed (ops_source : OpsSource) (file : Change DiskView) : Type 0 where
  pub replica : Replica
  pub end : End
  pub holds : FileHolds file.old replica end
  pub outcome : Outcome
  pub gives : ops_source.Gives replica (Does outcome)
  pub fits : IsTooLong end outcome.saved → ⊥
  pub moments : IfSome file.old.past (λ h. GainsAllOrNone outcome.saved h file.new.past)
  pub faulted : Faulted file.old.faults file.new.faults
  pub no_room : HasDiskRoom (room_to_save outcome.saved) file.old → ⊥

-- a call on the source failed, after the loading of the file, which settles it
pub record GivingFailed (ops_source : OpsSource) (file : Change DiskView) : Type 0 where
  pub replica : Replica
  pub end : End
  pub holds : FileHolds file.old replica end
  pub synced : file.new.past ≡ past_after_step durable file.old.past
  pub failed : ops_source.Failed
  pub not_sure : ops_source.Sure → ⊥
  pub keeps : KeepsFile file

-- why nothing was done, or not all of it: but for failures the file is as it was, and settled where it was not refused
abbrev pub StopsSaving : OpsSource → Change DiskView → Refusal → Type 0
StopsSaving ops_source file refusal.Outside = LoadFailed file ⊎ GivingFailed ops_source file ⊎ SaveFailed ops_source file
StopsSaving ops_source file refusal.NoMemory = KeepsFile file
StopsSaving ops_source file refusal.Words = ⊥
StopsSaving ops_source file why =
    SavingFound ops_source file.old (Refuses why) × KeepsFile file
    × (FileRefuses file.old why ⊎ (file.new.past ≡ past_after_step durable file.old.past))

-- a replica that takes in the outcome's operations too comes to its state
pub record Suffices (replica : Replica) (outcome : Outcome) : Type 0 where
  pub same_state : held_from replica.hold replica.most replica.held outcome.saved ≡ outcome.held
  pub place : MeetsNoLimit replica.hold replica.most replica.held outcome.saved

-- what came of a command: the outcome of one that did all, or why it did not come
abbrev pub SavesOutcome : OpsSource → Change DiskView → Result Outcome Refusal → Type 0
SavesOutcome ops_source file (Ok outcome) = IsDone ops_source file outcome × IsFinished outcome.status
SavesOutcome ops_source file (Err why) = StopsSaving ops_source file why

-- the act of a command that saves
abbrev pub saving : OpsSource → Change DiskView → Act Outcome
saving ops_source file = record {
  Comes = SavesOutcome ops_source file;
  line = λ outcome. Some outcome.line;
  status = λ outcome. outcome.status;
}

-- what decides it: the file and the source
abbrev pub saving_basis : OpsSource → Change DiskView → Basis Outcome
saving_basis ops_source file = record {
  Specified = IsSpecified file.old × ops_source.Specified;
  Leads = SavingFound ops_source file.old;
  Failed = λ found. Faulted file.old.faults file.new.faults ⊎ ops_source.Failed;
  Sure = λ found. ops_source.Sure × HasDiskRoom (room_needed found) file.old;
}

-- a file that is the cause of a refusal decides it alone, whatever the source does, which comes after it
abbrev pub FileIsRefused : Change DiskView → Status → Type 0
FileIsRefused file end =
    IsSpecified file.old → (why : Refusal) → FileRefuses file.old why
    → IsDecided (status_of why) (Faulted file.old.faults file.new.faults) end

-- what a command gave to be saved: the outcome's operations, or nothing where it did not do all
abbrev pub GaveOutcome : OpsSource → DiskView → Status → List Op → Type 0
GaveOutcome ops_source file end ops =
    ((IsFinished end → ⊥) × (ops ≡ []))
    ⊎ ((replica : Replica) × (end : End) × FileHolds file replica end × (outcome : Outcome) × ops_source.Gives replica (Does outcome)
    × (ops ≡ outcome.saved))

-- a command that loads a file and saves what it was given
pub record SavesGiven (ops_source : OpsSource) (file : Change DiskView) (notes : Change OutView) (end : Status) : Type 0 where
  pub performs : Performs (saving ops_source file) notes end
  pub crash : NeverTorn (GaveOutcome ops_source file.old end) file end
  -- a sure file with room counts no fault, however the command ends
  pub counts_no_fault : WhereSpecified (saving_basis ops_source file) (λ found. DiskCountsNoFault (room_needed found) file)
  pub never_outside : NeverOutside (saving ops_source file) (saving_basis ops_source file) notes end
  pub decided : IsDecidedBy (saving ops_source file) (saving_basis ops_source file) notes end
  pub refused : FileIsRefused file end
  pub blameless : DiskBlameless file end

-- the input is left so by a command that takes from it: where all was done, it was read to its end
pub record ReadsInput (old new : SourceView) (end : Status) : Type 0 where
  pub read : IsFinished end → IfSome new.left (λ bytes. bytes ≡ [])
  pub counts_no_fault : old.sure ≡ true → new.faults ≡ old.faults
  pub blameless : SourceBlameless (change old new) end
