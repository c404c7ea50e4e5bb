-- A command acts, and then notes what came of that.
use Rattle.std.specs.Prelude.{◌≡◌, ◌≢◌, ◌⊎◌, List, ℕ, Option, Some, None, Result, Ok, Err}
use Rattle.fugue_ids.specs.Causes.{Faulted}
use Rattle.fugue_ids.specs.Outs.{OutView}
use Rattle.command_kinds.specs.Changes.{Change, CountsNoFault, HasRoom, notes_room}
use Rattle.command_kinds.specs.Findings.{Basis, Does, Finding, IsDecided, Refuses, WhereSpecified}
use Rattle.command_kinds.specs.Printing.{NoteMeets, NotesBlameless}
use Rattle.command_kinds.specs.Refusal.{refusal_line, status_of, Reported}
use Rattle.command_kinds.specs.declared.refusal.Refusal.{Refusal}
use Rattle.command_kinds.specs.declared.status.Status.{Status}
use Rattle.command_kinds.specs.declared.status.Status.TheVariants.{Done, OutsideFault}

-- a line was noted with its status, or the notes failed; where there is no line, nothing was noted
abbrev pub NotesLine : Option (List ℕ) → Status → Change OutView → Status → Type 0
NotesLine None status notes end = (notes.new ≡ notes.old) × (end ≡ status)
NotesLine (Some line) status notes end = NoteMeets line status notes.old notes.new end

-- what came of an act was noted: the line of what was done, or that of the refusal, which gives the status
abbrev pub NotesResult : {T : Type 0} → (line : T → Option (List ℕ)) → (status : T → Status) → Result T Refusal → Change OutView → Status
    → Type 0
NotesResult line status (Ok done) notes end = NotesLine (line done) (status done) notes end
NotesResult line status (Err why) notes end = Reported notes.old notes.new (refusal_line why) × (end ≡ status_of why)

-- what came of an act was noted, and what holds of the notes then
pub record ReportsResult {T : Type 0} (line : T → Option (List ℕ)) (status : T → Status) (result : Result T Refusal)
    (notes : Change OutView)
    (end : Status) : Type 0 where
  pub noted : NotesResult line status result notes end
  -- notes that have room count no fault
  pub counts_no_fault : CountsNoFault notes_room notes.old notes.new
  -- specified notes count a fault only where the status is OutsideFault, or where the line of a refusal was not written
  pub blameless : NotesBlameless notes end

-- an act that notes nothing where all was done
abbrev pub no_line : Unit {0} → Option (List ℕ)
no_line done = None

-- the status of such an act is Done
abbrev pub all_done : Unit {0} → Status
all_done done = Done

-- what a command does before it notes anything
pub record Act (T : Type 0) : Type 1 where
  -- what was done, by what came of it: all, or why it stopped
  pub Comes : Result T Refusal → Type 0
  -- the line that is noted where all was done, if there is one
  pub line : T → Option (List ℕ)
  -- and the status then
  pub status : T → Status

-- an act came to a result, and what came of it was reported
pub record Performs {T : Type 0} (act : Act T) (notes : Change OutView) (end : Status) : Type 0 where
  pub result : Result T Refusal
  pub did : act.Comes result
  pub reported : ReportsResult act.line act.status result notes end

-- the status that follows from what the objects lead to
abbrev pub status_found : {T : Type 0} → Act T → Finding T → Status
status_found act (Refuses why) = status_of why
status_found act (Does done) = act.status done

-- the line that is noted of what was done; for a refusal it is None
abbrev pub line_found : {T : Type 0} → Act T → Finding T → Option (List ℕ)
line_found act (Refuses why) = None
line_found act (Does done) = act.line done

-- a call failed; one on the notes counts only where a line is noted of what was done, since a refusal keeps its status
abbrev pub SomeFails : {T : Type 0} → Act T → Basis T → (notes : Change OutView) → Finding T → Type 0
SomeFails act basis notes found =
    basis.Failed found ⊎ ((line_found act found ≢ None) × Faulted notes.old.faults notes.new.faults)

-- the objects decide the status, unless memory runs out or a call fails
abbrev pub IsDecidedBy : {T : Type 0} → Act T → Basis T → (notes : Change OutView) → Status → Type 0
IsDecidedBy act basis notes end =
    WhereSpecified basis (λ found. IsDecided (status_found act found) (SomeFails act basis notes found) end)

-- where they are sure, and the notes have room for the line, if there is one, the status is not OutsideFault
abbrev pub NeverOutside : {T : Type 0} → Act T → Basis T → (notes : Change OutView) → Status → Type 0
NeverOutside act basis notes end =
    WhereSpecified basis (λ found. basis.Sure found → (line_found act found ≢ None → HasRoom notes_room notes.old) → end ≢ OutsideFault)
