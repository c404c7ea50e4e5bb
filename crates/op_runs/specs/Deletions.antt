-- Deletes of neighbours.
use Rattle.std.specs.Prelude.{ℕ, zero, suc, ◌+◌, ◌-◌, ◌≤◌, ◌^◌, Bool, true, false, List, [], ◌∷◌}
use Rattle.fugue_ids.specs.Identifiers.{Identifier}
use Rattle.fugue_ids.specs.Runs.{id_after, next_id}
use Rattle.fugue_ids.specs.declared.op.Op.{Op}
use Rattle.fugue_ids.specs.declared.op.Op.TheVariants.{Delete}

-- the identifier so many before this one
abbrev pub id_before : Identifier → ℕ → Identifier
id_before id n = record { replica = id.replica; counter = id.counter - n }

-- forwards: each target is the identifier after that of the one before
abbrev pub deletes_up : Identifier → ℕ → List Op
deletes_up target zero = []
deletes_up target (suc n) = Delete target ∷ deletes_up (next_id target) n

-- backwards
abbrev pub deletes_down : Identifier → ℕ → List Op
deletes_down target zero = []
deletes_down target (suc n) = Delete target ∷ deletes_down (id_before target 1) n

-- so many Deletes of neighbours from a target on, backwards or forwards
abbrev pub deletes_by : (down : Bool) → Identifier → ℕ → List Op
deletes_by true target n = deletes_down target n
deletes_by false target n = deletes_up target n

-- the target so many after the first
abbrev pub target_by : (down : Bool) → Identifier → ℕ → Identifier
target_by true target n = id_before target n
target_by false target n = id_after target n

-- the counters of so many targets are there
abbrev pub CountersFit : (down : Bool) → Identifier → ℕ → Type 0
CountersFit true target n = n ≤ target.counter + 1
CountersFit false target n = target.counter + n ≤ 2 ^ 32
