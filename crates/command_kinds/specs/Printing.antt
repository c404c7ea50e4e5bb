-- What came of a line of notes, and of an output that failed.
use Rattle.std.specs.Prelude.{◌≡◌, ◌≢◌, ◌⊎◌, ℕ, List, length}
use Rattle.fugue_ids.specs.Causes.{Faulted}
use Rattle.fugue_ids.specs.Outs.{OutIsSpecified, OutView, Took, TookFront}
use Rattle.command_kinds.specs.Refusal.{refusal_line, status_of, TookFronts}
use Rattle.command_kinds.specs.Changes.{Change, HasRoom, notes_room}
use Rattle.command_kinds.specs.declared.refusal.Refusal.{Refusal}
use Rattle.command_kinds.specs.declared.refusal.Refusal.TheVariants as refusal
use Rattle.command_kinds.specs.declared.status.Status.{Status}
use Rattle.command_kinds.specs.declared.status.Status.TheVariants as status

-- a line of notes was written
pub record Noted (line : List ℕ) (status : Status) (old new : OutView) (end : Status) : Type 0 where
  pub took : Took old new line
  pub end_is : end ≡ status

-- the notes failed: they hold a front of the line, and then one of the fault's line
pub record NotNoted (line : List ℕ) (old new : OutView) : Type 0 where
  pub took : TookFronts old new line (refusal_line refusal.Outside)
  pub faulted : Faulted old.faults new.faults
  pub no_room : HasRoom notes_room old → ⊥

-- the line was written and the status answered, or the notes failed
abbrev pub NoteMeets : (line : List ℕ) (status : Status) → OutView → OutView → Status → Type 0
NoteMeets line wanted old new end = Noted line wanted old new end ⊎ (NotNoted line old new × (end ≡ status.OutsideFault))

-- the output failed: a front of a text went out
pub record WroteFront (bytes : List ℕ) (output : Change OutView) : Type 0 where
  pub wrote : TookFront output.old output.new bytes
  pub faulted : Faulted output.old.faults output.new.faults
  pub no_room : HasRoom (length bytes) output.old → ⊥

-- a refusal's line could not be written: the refusal keeps its status
pub record NotReported (notes : Change OutView) (end : Status) : Type 0 where
  pub why : Refusal
  pub end_is : end ≡ status_of why
  pub front : TookFront notes.old notes.new (refusal_line why)
  pub faulted : Faulted notes.old.faults notes.new.faults

-- specified notes count a fault only where the status is OutsideFault, or where the line of a refusal was not written
abbrev pub NotesBlameless : Change OutView → Status → Type 0
NotesBlameless notes end =
    OutIsSpecified notes.old → end ≢ status.OutsideFault → (notes.new.faults ≡ notes.old.faults) ⊎ NotReported notes end
