-- The calls by which authors edit a replica and make notes, as events of a world.
use Rattle.std.specs.Prelude.{◌≡◌, ◌≢◌, ℕ, Result, Err, IfOk, IfErr, OnErr, List, take}
use Rattle.fugue_ids.specs.Identifiers.{Identifier}
use Rattle.origin_model.specs.edits.Edits.{Command}
use Rattle.origin_model.specs.edits.State.{State}
use Rattle.origin_model.specs.edits.Refusal.{RefusesExactly}
use Rattle.origin_model.specs.edits.Effect.{IsMade, LeavesUnmade}
use Rattle.origin_model.specs.edits.Noting.{AreHeld, IsNoted, RefusesNote}
use Rattle.origin_model.specs.declared.edit_fault.EditFault.{EditFault}
use Rattle.origin_model.specs.declared.edit_fault.EditFault.TheVariants.{NoMemory}
use Rattle.list_spec.specs.Worlds.{replica_after_note, replica_after_edit, effect}

-- what `put`, `cut`, `add` and `drop_section` promise of the edit that they are asked for
pub record IsEditCall (command : Command) (old new : State) (result : Result ℕ EditFault) : Type 0 where
  pub made : IfOk result (λ n. IsMade old new command n)
  pub refused : RefusesExactly old command result
  pub unmade : IfErr result (λ fault. LeavesUnmade old new command fault)

-- the call is an edit of the world: the one that was asked for or, where memory ran out, a smaller one, which makes the
-- first of its operations
pub record IsWorldEdit (command : Command) (old new : State) (result : Result ℕ EditFault) : Type 0 where
  pub done : Command
  pub is : new ≡ replica_after_edit done old
  pub count : ℕ
  pub part : effect old done ≡ take count (effect old command)
  pub whole : result ≢ Err NoMemory → done ≡ command

-- every such call is an edit
abbrev pub CallsAreEdits : Type 0
CallsAreEdits = (command : Command) (old new : State) (result : Result ℕ EditFault) → IsEditCall command old new result
    → IsWorldEdit command old new result

-- what `note` promises of the note that it is asked for
pub record IsNoteCall (named : List Identifier) (code : ℕ) (body : List ℕ) (old new : State) (result : Result ℕ EditFault) : Type 0 where
  pub made : IfOk result (λ n. IsNoted old new named code body n)
  pub refused : RefusesNote old result
  pub unmade : OnErr result (new ≡ old)

-- the call is a noting of the world or, where memory ran out, no event of it
pub record IsNoting (named : List Identifier) (code : ℕ) (body : List ℕ) (old new : State) (result : Result ℕ EditFault) : Type 0 where
  pub is : result ≢ Err NoMemory → new ≡ replica_after_note named code body old
  pub unmade : result ≡ Err NoMemory → new ≡ old

-- so is every such call where all that is named is held
abbrev pub CallsAreNotings : Type 0
CallsAreNotings =
    (named : List Identifier) (code : ℕ) (body : List ℕ) (old new : State) (result : Result ℕ EditFault) → AreHeld old.held.history named
    → IsNoteCall named code body old new result → IsNoting named code body old new result
