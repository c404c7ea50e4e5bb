-- A replica on its way, that takes in a file's operations.
use Rattle.std.specs.Prelude.{◌≡◌, Bool, true, false, List, ◌++◌, ◌∷◌}
use Rattle.fugue_ids.specs.declared.op.Op.{Op}
use Rattle.fugue_ids.specs.declared.limits.TheConstants.{MOST_OPERATIONS}
use Rattle.origin_model.specs.taking.Taking.{IsSettled, answer, held, is_kept}
use Rattle.origin_model.specs.edits.State.{State, IsSound}
use Rattle.replica_file.specs.Load.{AreTooMany, FindPlace}

-- one operation more can be taken in
pub record CanTake (replica : State) : Type 0 where
  pub settled : IsSettled replica.held
  pub sound : IsSound replica

-- all operations found their place, and the replica holds what they leave
pub record AreIn (replica : State) (ops : List Op) : Type 0 where
  pub place : FindPlace replica.hold replica.most ops
  pub held_is : replica.held ≡ held replica.hold replica.most ops
  -- a replica with the greatest limit would hold the same
  pub same : replica.held ≡ held replica.hold MOST_OPERATIONS ops

-- what came of the operations so far, by whether all found their place
abbrev pub Fed : Bool → State → List Op → Type 0
Fed true replica ops = AreIn replica ops
Fed false replica ops = AreTooMany replica.hold replica.most ops

-- from one state to another, these operations were taken in, after whatever was before
pub record Feeds (was : Bool) (old : State) (now : Bool) (new : State) (ops : List Op) : Type 0 where
  pub behind : (before : List Op) → Fed was old before → Fed now new (before ++ ops)

-- the replica differs in what it holds alone
abbrev pub IsSameButHeld : State → State → Type 0
IsSameButHeld old new = new ≡ record old { held = new.held }

-- The first of the operations were taken in, and memory ran out for the next one, which would be kept: all before it
-- found their place.
pub record WantsMemory (was : Bool) (old : State) (ops : List Op) : Type 0 where
  pub front : List Op
  pub op : Op
  pub more : List Op
  pub parts : ops ≡ front ++ op ∷ more
  pub reached : State
  pub feeds : Feeds was old true reached front
  pub same : IsSameButHeld old reached
  pub kept : is_kept (answer reached.hold reached.most reached.held op) ≡ true
