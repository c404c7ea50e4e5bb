-- A replica as it was when it had accepted so many operations, and that these stay the first.
use Rattle.std.specs.Prelude.{◌≡◌, ℕ, ◌-◌, ◌≤◌, max, nat_lt, if◌then◌else◌, Option, Some, None, List, [], ◌++◌, length}
use Rattle.fugue_ids.specs.Identifiers.{Identifier}
use Rattle.fugue_ids.specs.declared.limits.TheConstants.{MOST_OPERATIONS}
use Rattle.fugue_ids.specs.declared.op.Op.{Op}
use Rattle.origin_model.specs.edits.Edits.{Command}
use Rattle.origin_model.specs.edits.Effect.{IsMade, StopsPartly}
use Rattle.origin_model.specs.edits.Noting.{IsNoted}
use Rattle.origin_model.specs.edits.Refusal.{held_count}
use Rattle.origin_model.specs.edits.State.{State}
use Rattle.origin_model.specs.taking.Taking.{Held, held, held_from}
use Rattle.version_views.specs.Views.{first_ops}

-- how many operations a replica holds besides the n that it accepted first
abbrev pub held_besides : ℕ → State → ℕ
held_besides n s = held_count s - n

-- how many operations a front may hold: so many that there is room for the others too, and one at least
abbrev pub front_most : ℕ → State → ℕ
front_most n s = max (MOST_OPERATIONS - held_besides n s) 1

-- the replica as it was when it had accepted n operations, with nothing pending
abbrev pub replica_at : ℕ → State → State
replica_at n s = record {
  number = s.number;
  hold = s.hold;
  most = front_most n s;
  held = record { history = first_ops n s.held.history; waiting = [] };
}

-- None where fewer were accepted
abbrev pub front_at : ℕ → State → Option State
front_at n s = if nat_lt (length s.held.history) n then None else Some (replica_at n s)

-- what was accepted stays: what came later is newer, and nothing is gone
pub record GrowsHistory (old new : List Op) : Type 0 where
  pub newer : List Op
  pub grown : new ≡ newer ++ old

-- operations that are taken in leave what was accepted, whatever the answers
abbrev pub IntakesGrow : Type 0
IntakesGrow = (hold most : ℕ) (s : Held) (ops : List Op) → GrowsHistory s.history (held_from hold most s ops).history

-- and so do operations that a file gains
abbrev pub FilesGrow : Type 0
FilesGrow = (hold most : ℕ) (ops more : List Op) → GrowsHistory (held hold most ops).history (held hold most (ops ++ more)).history

-- so do edits, whole or in part, and notes
abbrev pub EditsGrow : Type 0
EditsGrow = (old new : State) (command : Command) (n : ℕ) → IsMade old new command n → GrowsHistory old.held.history new.held.history

-- what an edit leaves that was stopped on its way has the old history at its beginning
abbrev pub PartsGrow : Type 0
PartsGrow = (old new : State) (ops : List Op) → StopsPartly old new ops → GrowsHistory old.held.history new.held.history

-- what a note leaves has the old history at its beginning
abbrev pub NotesGrow : Type 0
NotesGrow = (old new : State) (named : List Identifier) (code : ℕ) (body : List ℕ) (n : ℕ) → IsNoted old new named code body n
    → GrowsHistory old.held.history new.held.history

-- so the first operations are the same ones later
abbrev pub FirstStay : Type 0
FirstStay = (n : ℕ) (old new : List Op) → GrowsHistory old new → n ≤ length old → first_ops n new ≡ first_ops n old
