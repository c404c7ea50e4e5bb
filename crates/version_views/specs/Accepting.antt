-- Accepting operations that are Ready in their turn, by a replica at which nothing waits.
use Rattle.std.specs.Prelude.{◌≡◌, ℕ, ◌+◌, ◌≤◌, List, [], ◌++◌, length, take}
use Rattle.fugue_ids.specs.declared.op.Op.{Op}
use Rattle.origin_model.specs.edits.Edits.{ReadyInTurn}
use Rattle.origin_model.specs.edits.Effect.{with_ops}
use Rattle.origin_model.specs.edits.State.{State, IsSound}

-- the operations can be accepted, one after another
pub record CanAccept (s : State) (ops : List Op) : Type 0 where
  pub sound : IsSound s
  pub quiet : s.held.waiting ≡ []
  pub ready : ReadyInTurn s.held.history ops
  pub room : length s.held.history + length ops ≤ s.most

-- of the operations all were accepted but the first so many of the rest
pub record IsAccepting (begun now : State) (ops rest : List Op) (left : ℕ) : Type 0 where
  pub done : List Op
  pub parts : ops ≡ done ++ take left rest
  pub accepted : now ≡ with_ops begun done
  pub sound : IsSound now
