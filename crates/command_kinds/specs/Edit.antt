-- The command `edit`: a script is run on a file's replica, and what it made is saved.
use Rattle.std.specs.Prelude.{◌≡◌, ◌≢◌, ◌⊎◌, ℕ, ◌<◌, ◌≤◌, List, ◌++◌, length, true, Some, IfSome}
use Rattle.fugue_ids.specs.Causes.{Faulted}
use Rattle.fugue_ids.specs.declared.op.Op.{Op}
use Rattle.origin_model.specs.operations.History.{accepted}
use Rattle.edit_script.specs.declared.run.ScriptFault.{ScriptFault}
use Rattle.edit_script.specs.declared.run.ScriptFault.TheVariants as script_fault
use Rattle.edit_script.specs.declared.script.TheConstants.{LONGEST_SCRIPT}
use Rattle.edit_script.specs.Scripts.{RunsWhole, StopsAtLine}
use Rattle.outer_ports.specs.Sources.{SourceView}
use Rattle.origin_model.specs.edits.State.{State as Replica}
use Rattle.command_kinds.specs.Counts.{made_line}
use Rattle.command_kinds.specs.Findings.{Finding, Refuses, Does}
use Rattle.command_kinds.specs.Refusal.{script_refusal}
use Rattle.command_kinds.specs.Saving.{OpsSource, Outcome}
use Rattle.command_kinds.specs.Changes.{Change}
use Rattle.command_kinds.specs.declared.refusal.Refusal.{Refusal}
use Rattle.command_kinds.specs.declared.refusal.Refusal.TheVariants as refusal
use Rattle.command_kinds.specs.declared.status.Status.TheVariants as status

-- what comes of operations that a script made, by which it came to this replica
abbrev pub made_outcome : Replica → List Op → Outcome
made_outcome last made = record { saved = made; held = last.held; line = made_line (length made); status = status.Done }

-- the script was run to its end on a replica, and made these operations
pub record RunsScript (replica : Replica) (script : List ℕ) (outcome : Outcome) : Type 0 where
  pub short : length script ≤ LONGEST_SCRIPT
  pub made : List Op
  pub last : Replica
  pub runs : RunsWhole replica last script (length made)
  pub made_are : accepted last.held.history ≡ accepted replica.held.history ++ made
  pub outcome_is : outcome ≡ made_outcome last made

-- the script has a first faulty line, and its fault is the cause of this refusal
pub record HasFaultyLine (replica : Replica) (script : List ℕ) (why : Refusal) : Type 0 where
  pub short : length script ≤ LONGEST_SCRIPT
  pub fault : ScriptFault
  pub why_is : why ≡ script_refusal fault
  -- an allocation failure is no line's fault
  pub no_want : fault ≢ script_fault.NoMemory
  pub last : Replica
  pub stops : StopsAtLine replica last script fault

-- the script is the cause of this refusal: it is longer than its limit, or has a faulty line
abbrev pub ScriptRefuses : Replica → List ℕ → Refusal → Type 0
ScriptRefuses replica script why = ((why ≡ refusal.TooLong) × (LONGEST_SCRIPT < length script)) ⊎ HasFaultyLine replica script why

-- the script is all that the source has left, where that is specified
abbrev pub IsLeftScript : SourceView → List ℕ → Type 0
IsLeftScript input script = IfSome input.left (λ bytes. bytes ≡ script)

-- what a script gives: that of one script, also where the source is not specified
abbrev pub ScriptGives : SourceView → Replica → Finding Outcome → Type 0
ScriptGives input replica (Refuses why) = (script : List ℕ) × IsLeftScript input script × ScriptRefuses replica script why
ScriptGives input replica (Does outcome) = (script : List ℕ) × IsLeftScript input script × RunsScript replica script outcome

-- a script that is read from a source, as what gives the operations
abbrev pub script : Change SourceView → OpsSource
script input = record {
  Gives = ScriptGives input.old;
  Specified = (bytes : List ℕ) × (input.old.left ≡ Some bytes);
  Failed = Faulted input.old.faults input.new.faults;
  Sure = input.old.sure ≡ true;
}
