-- Where accepted operations are found: those of a history, of which the oldest is at the position 0.
use Rattle.std.specs.Prelude.{◌≡◌, ◌<◌, Option, Some, None, true, if◌then◌else◌, List, [], ◌∷◌, ℕ, length, reverse, take}
use Rattle.fugue_ids.specs.Identifiers.{Identifier}
use Rattle.fugue_ids.specs.declared.op.Op.{Op}
use Rattle.origin_model.specs.operations.History.{is_own}

-- the position of the newest operation with the identifier x: how many are older
abbrev pub position_of : Identifier → List Op → Option ℕ
position_of x [] = None
position_of x (op ∷ older) = if is_own x op then Some (length older) else position_of x older

-- the history of the first n operations
abbrev pub history_at : List Op → ℕ → List Op
history_at ops n = reverse (take n ops)

-- a history as it was when x had come: x's operation is the newest of it
abbrev pub as_of : List Op → Identifier → List Op
as_of [] x = []
as_of (op ∷ older) x = if is_own x op then op ∷ older else as_of older x

-- x's operation is at this position, below n
pub record IsAtPosition (ops : List Op) (n : ℕ) (x : Identifier) (at : ℕ) (op : Op) : Type 0 where
  pub below : at < n
  pub own : is_own x op ≡ true
  pub newest : as_of (history_at ops n) x ≡ op ∷ history_at ops at
