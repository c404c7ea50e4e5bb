-- An index of waiting operations. Each has an age: a later one has a greater age.
use Rattle.std.specs.Prelude.{◌≡◌, ◌<◌, ◌-◌, ◌≤◌, ℕ, get_or, Option, Some, None, Bool, false, not, List, [], ◌∷◌, ◌++◌, length, nat_eq}
use Rattle.std.specs.Prelude.{slice_get, AllPairs, filter, if◌then◌else◌}
use Rattle.std.specs.Option.{option_eq}
use Rattle.fugue_ids.specs.Ops.{op_eq}
use Rattle.fugue_ids.specs.declared.op.Op.{Op}
use Rattle.causal_inbox.specs.Key.{has_key}
use Rattle.causal_inbox.specs.Positions.{positions_from}
use Rattle.causal_inbox.specs.declared.key.Key.{Key}

-- the ages of the operations that have the key, in order
abbrev pub ages_with : Key → List Op → List ℕ → List ℕ
ages_with key [] ages = []
ages_with key (op ∷ ops) [] = []
ages_with key (op ∷ ops) (a ∷ ages) = if has_key key op then a ∷ ages_with key ops ages else ages_with key ops ages

-- the age stands at the end of the list
abbrev pub is_last : List ℕ → ℕ → Bool
is_last ages a = option_eq nat_eq (slice_get ages (length ages - 1)) (Some a)

-- the list with the age at its end, but not there twice
abbrev pub with_age : List ℕ → ℕ → List ℕ
with_age ages a = if is_last ages a then ages else ages ++ a ∷ []

-- the list without the age
abbrev pub without_age : List ℕ → ℕ → List ℕ
without_age ages a = filter (λ b. not (nat_eq b a)) ages

-- an index of waiting operations: an age for each, and for each key the ages of those that have it
pub record IsAgeIndex (ops : List Op) (ages : List ℕ) (at : Key → List ℕ) : Type 0 where
  pub one_each : length ages ≡ length ops
  pub rise : AllPairs ◌<◌ ages
  pub listed : (key : Key) → at key ≡ ages_with key ops ages

-- an index of some operations
pub record IsAgeIndexOfSome (ages : List ℕ) (at : Key → List ℕ) : Type 0 where
  pub ops : List Op
  pub index : IsAgeIndex ops ages at

-- the positions of the operations that have the key, in order
abbrev pub positions_with : Key → List Op → List ℕ
positions_with key ops = positions_from 0 (has_key key) ops

-- the operation that may be there is equal
abbrev pub is_equal : Op → Option Op → Bool
is_equal op None = false
is_equal op (Some other) = op_eq other op

-- the operation at the position is equal
abbrev pub is_equal_at : List Op → Op → ℕ → Bool
is_equal_at ops op p = is_equal op (slice_get ops p)

-- the first age that is not below this one has the position
pub record IsFirstFrom (ages : List ℕ) (age position : ℕ) : Type 0 where
  pub within : position ≤ length ages
  pub before : (k : ℕ) → k < position → get_or ages k 0 < age
  pub behind : (k : ℕ) → position ≤ k → k < length ages → age ≤ get_or ages k 0
