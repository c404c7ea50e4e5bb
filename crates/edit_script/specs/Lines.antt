-- One line of a script: what it asks for, what it does, and why it is not run.
use Rattle.std.specs.Prelude.{◌≡◌, ◌⊎◌, ℕ, ◌+◌, ◌<◌, ◌≤◌, Option, Some, None, List, length}
use Rattle.fugue_ids.specs.Identifiers.{Identifier}
use Rattle.fugue_ids.specs.declared.op.Op.{Op}
use Rattle.origin_model.specs.declared.operations.Place.TheVariants.{Section as within}
use Rattle.cluster_text.specs.Clusters.{span}
use Rattle.origin_model.specs.edits.Edits.{Command}
use Rattle.origin_model.specs.edits.State.{State}
use Rattle.origin_model.specs.edits.Refusal.{made_by, section_shown, shown_count}
use Rattle.origin_model.specs.edits.Effect.{StopsPartly}
use Rattle.origin_model.specs.declared.edit_fault.EditFault.{EditFault}
use Rattle.origin_model.specs.declared.edit_fault.EditFault.TheVariants as edit
use Rattle.edit_script.specs.declared.edit.Edit.{Edit}
use Rattle.edit_script.specs.declared.run.ScriptFault.{ScriptFault}
use Rattle.edit_script.specs.declared.run.ScriptFault.TheVariants as script
use Rattle.edit_script.specs.declared.line.LineFault.{LineFault}
use Rattle.edit_script.specs.declared.line.LineFault.TheVariants as fault
use Rattle.edit_script.specs.Commands.{replica_command}
use Rattle.edit_script.specs.Grammar.{Asks, IsFaultyLine, IsNote}
use Rattle.edit_script.specs.Scripts.{Does, Edits, IsPartlyMade, IsRefusedEdit, by_scalars, shown_clusters, line_refusal}

-- the line was read: it asks for the edit, or for none
abbrev pub ReadsLine : List ℕ → Option Edit → Type 0
ReadsLine line None = IsNote line
ReadsLine line (Some edit) = Asks line (replica_command edit)

-- a line that was not read asks for nothing that there is, or memory ran out
abbrev pub IsUnreadable : List ℕ → LineFault → Type 0
IsUnreadable line fault.Bad = IsFaultyLine line
IsUnreadable line (fault.Edit f) = f ≡ edit.NoMemory

-- an edit by clusters made n operations
pub record Made (old new : State) (command : Command) (n : ℕ) : Type 0 where
  pub ops : List Op
  pub edits : Edits old new command ops
  pub count : n ≡ length ops

-- an edit by clusters was not made
abbrev pub Unmade : (old new : State) → Command → EditFault → Type 0
Unmade old new command edit.NoMemory = (new ≡ old) ⊎ StopsPartly old new (made_by old (by_scalars old command))
Unmade old new command f = (new ≡ old) × (line_refusal old command ≡ Some f)

-- the line was run
pub record WasRun (old new : State) (line : List ℕ) : Type 0 where
  pub ops : List Op
  pub does : Does old new line ops

-- the line was not run
abbrev pub LineFails : (old new : State) → List ℕ → LineFault → Type 0
LineFails old new line fault.Bad = (new ≡ old) × IsFaultyLine line
LineFails old new line (fault.Edit edit.NoMemory) = IsPartlyMade old new line
LineFails old new line (fault.Edit f) = (new ≡ old) × IsRefusedEdit old line f

-- the scalars of n clusters of a shown section, from the cluster `at` on: their place and their number
pub record IsSpan (s : State) (k at n : ℕ) (found : ℕ × ℕ) : Type 0 where
  pub section : Identifier
  pub shown : section_shown s k ≡ Some section
  pub enough : at + n ≤ length (shown_clusters s section)
  pub found_is : found ≡ span (shown_clusters s section) at n
  pub within : found.0 + found.1 ≤ shown_count s (within section)

-- there is no such section, or it has fewer clusters
abbrev pub HasNoSpan : State → (k at n : ℕ) → EditFault → Type 0
HasNoSpan s k at n edit.NoSection = section_shown s k ≡ None
HasNoSpan s k at n edit.OutOfRange =
    (section : Identifier) × (section_shown s k ≡ Some section) × (length (shown_clusters s section) < at + n)
HasNoSpan s k at n edit.NoMemory = Unit {0}
HasNoSpan s k at n _ = ⊥

-- the fault of a script whose line of this number was not run
abbrev pub fault_at : ℕ → LineFault → ScriptFault
fault_at n fault.Bad = script.BadLine n
fault_at n (fault.Edit edit.NoSection) = script.NoSection n
fault_at n (fault.Edit edit.OutOfRange) = script.OutOfRange n
fault_at n (fault.Edit (edit.IdsSpent greatest)) = script.IdsSpent greatest
fault_at n (fault.Edit (edit.TooMany held)) = script.TooMany held
fault_at n (fault.Edit edit.NoMemory) = script.NoMemory
