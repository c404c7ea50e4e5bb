-- What the calls that edit rest on: causes, the texts of a spot, and operations that can be accepted in turn.
use Rattle.std.specs.Prelude.{◌≡◌, ℕ, ◌+◌, ◌<◌, ◌≤◌, false, Some, None, List, [], ◌∷◌, length}
use Rattle.fugue_ids.specs.Ops.{id_of}
use Rattle.fugue_ids.specs.declared.op.Op.{Op}
use Rattle.origin_model.specs.operations.Verdict.{id_held, verdict}
use Rattle.origin_model.specs.taking.Taking.{IsSettled}
use Rattle.origin_model.specs.edits.Edits.{Command, typed_texts}
use Rattle.origin_model.specs.edits.Refusal.{held_count, made_by, refusal_message}
use Rattle.origin_model.specs.edits.State.{State}
use Rattle.origin_model.specs.declared.edit_fault.EditFault.{EditFault}
use Rattle.origin_model.specs.declared.edit_fault.EditFault.TheVariants.{NoMemory}
use Rattle.origin_model.specs.declared.operations.Verdict.TheVariants.{Ready}
use Rattle.replica_core.specs.declared.edits.planning.TextSpot.{TextSpot}

-- a cause for which an edit is not made
abbrev pub IsCauseOf : EditFault → State → Command → Type 0
IsCauseOf NoMemory s command = (refusal_message s command ≡ None) × (0 < length (made_by s command))
IsCauseOf fault s command = refusal_message s command ≡ Some fault

-- texts that are typed at a spot
abbrev pub typed_at : ℕ → TextSpot → List ℕ → List Op
typed_at number spot new = typed_texts number spot.counter spot.section spot.left spot.right new

-- operations come in turn: each is Ready, none that waits has its identifier, and nothing that waits is decided by it
abbrev pub ComeInTurn : List Op → List Op → List Op → Type 0
ComeInTurn waiting history [] = Unit {0}
ComeInTurn waiting history (op ∷ ops) =
    (verdict history op ≡ Ready) × (id_held waiting (id_of op) ≡ false) × IsSettled (record { history = op ∷ history; waiting = waiting })
    × ComeInTurn waiting (op ∷ history) ops

-- a settled replica can accept the operations, one after another
pub record CanJoin (s : State) (ops : List Op) : Type 0 where
  pub settled : IsSettled s.held
  pub in_turn : ComeInTurn s.held.waiting s.held.history ops
  pub room : held_count s + length ops ≤ s.most
