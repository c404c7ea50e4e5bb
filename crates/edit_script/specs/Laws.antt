-- Laws of scripts: what a line asks for and what a script comes to is exactly one thing, and what a script made comes
-- to the same where it is taken in.
use Rattle.std.specs.Prelude.{◌≡◌, ◌≢◌, ◌⊎◌, ℕ, List, ◌++◌}
use Rattle.fugue_ids.specs.declared.op.Op.{Op}
use Rattle.origin_model.specs.operations.History.{accepted}
use Rattle.origin_model.specs.taking.Taking.{IsSettled, held_from, kept_from}
use Rattle.origin_model.specs.edits.Edits.{Command}
use Rattle.origin_model.specs.edits.State.{State, IsSound}
use Rattle.edit_script.specs.declared.run.ScriptFault.{ScriptFault}
use Rattle.edit_script.specs.declared.run.ScriptFault.TheVariants.{NoMemory}
use Rattle.edit_script.specs.Grammar.{Asks, IsFaultyLine, IsNote}
use Rattle.edit_script.specs.Scripts.{RunsWhole, StopsAtLine}

-- each line is a note line, or asks for an edit, or is bad; none asks for two edits, and no note line for one
pub record AsksOnce : Type 0 where
  pub some : (line : List ℕ) → IsNote line ⊎ ((command : Command) × Asks line command) ⊎ IsFaultyLine line
  pub one : (line : List ℕ) (a b : Command) → Asks line a → Asks line b → a ≡ b
  pub note : (line : List ℕ) (command : Command) → IsNote line → Asks line command → ⊥

-- from a state a script comes to its end or to its first faulty line, and to one of these, where memory is not wanting
pub record RunsOnce : Type 0 where
  pub some : (old : State) (script : List ℕ)
      → ((new : State) × (n : ℕ) × RunsWhole old new script n)
      ⊎ ((new : State) × (f : ScriptFault) × (f ≢ NoMemory) × StopsAtLine old new script f)
  pub whole : (old a b : State) (script : List ℕ) (m n : ℕ) → RunsWhole old a script m → RunsWhole old b script n → (a ≡ b) × (m ≡ n)
  pub stops : (old a b : State) (script : List ℕ) (f g : ScriptFault) → f ≢ NoMemory → g ≢ NoMemory → StopsAtLine old a script f
      → StopsAtLine old b script g → (a ≡ b) × (f ≡ g)
  pub apart : (old a b : State) (script : List ℕ) (n : ℕ) (f : ScriptFault) → f ≢ NoMemory → RunsWhole old a script n
      → StopsAtLine old b script f → ⊥

-- operations that are taken in where a replica was come to where it is, and all of them are kept
pub record AreTakenIn (old new : State) (made : List Op) : Type 0 where
  pub state : held_from old.hold old.most old.held made ≡ new.held
  pub all_kept : kept_from old.hold old.most old.held made ≡ made

-- what a script made on a settled replica, taken in by a copy of what that was, comes to what the script came to
abbrev pub ScriptsAreTakenIn : Type 0
ScriptsAreTakenIn =
    (old new : State) (script : List ℕ) (n : ℕ) (made : List Op) → IsSound old → IsSettled old.held → RunsWhole old new script n
    → accepted new.held.history ≡ accepted old.held.history ++ made → AreTakenIn old new made
