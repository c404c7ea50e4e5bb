-- Two columns: counters in ascending order, and beside each its value.
use Rattle.std.specs.Prelude.{◌≡◌, ℕ, ◌<◌, ◌≤◌, ◌==◌, if◌then◌else◌, List, [], ◌∷◌, length, slice_index, Option, None, Some}

-- the counters ascend
abbrev pub IsAscending : List ℕ → Type 0
IsAscending cs = (i j : ℕ) → i < j → j < length cs → slice_index cs i < slice_index cs j

-- the value beside the counter
abbrev pub value_beside : {V : Type 0} → List ℕ → List V → ℕ → Option V
value_beside [] vs c = None
value_beside (d ∷ ds) [] c = None
value_beside (d ∷ ds) (v ∷ vs) c = if d == c then Some v else value_beside ds vs c

-- the counter stands at place i
pub record IsPlaceOf (cs : List ℕ) (c i : ℕ) : Type 0 where
  pub inside : i < length cs
  pub here : slice_index cs i ≡ c

-- the counter would go to place i: smaller ones stand before it, and greater ones from it on
pub record IsGapFor (cs : List ℕ) (c i : ℕ) : Type 0 where
  pub inside : i ≤ length cs
  pub before : (j : ℕ) → j < i → slice_index cs j < c
  pub behind : (j : ℕ) → i ≤ j → j < length cs → c < slice_index cs j

-- the counter could stand in the place of the one at i: smaller ones stand before that place, and greater ones after it
pub record IsFitFor (cs : List ℕ) (c i : ℕ) : Type 0 where
  pub before : (j : ℕ) → j < i → slice_index cs j < c
  pub behind : (j : ℕ) → i < j → j < length cs → c < slice_index cs j
