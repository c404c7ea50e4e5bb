-- The rules of the values that stretches have.
use Rattle.std.specs.Prelude.{◌≡◌, ℕ, zero, suc, ◌+◌, ◌<◌, ◌≤◌, ◌^◌, IfSome, IsNone, IsSome, None, Option, Some}
use Rattle.std.specs.FinMap.{FinMap, insert}
use Rattle.fugue_ids.specs.Identifiers.{Identifier, id_cmp}
use Rattle.fugue_ids.specs.Runs.{id_after, left_after}
use Rattle.stretch_map.specs.declared.follows.Position.{Position}
use Rattle.stretch_map.specs.declared.follows.Typed.{Typed}

-- the position so many steps after
abbrev pub later : Position → ℕ → Position
later p k = record { at = p.at + k }

-- the position so many steps after is a number of 64 bits
abbrev pub CanBeLater : Position → ℕ → Type 0
CanBeLater p k = 0 < k → p.at + k < 2 ^ 64

-- the origins so many steps after: the identifier before it is the left origin
abbrev pub typed_after : Identifier → Typed → ℕ → Typed
typed_after first t k = record { left = left_after t.left first k; right = t.right }

-- none of the first n identifiers from this one on has a value
abbrev pub AreFree : {V : Type 0} → (Identifier → Option V) → Identifier → ℕ → Type 0
AreFree value_of first n = (k : ℕ) → k < n → value_of (id_after first k) ≡ None

-- the rule gives the first n values
abbrev pub ReachesRun : {V : Type 0} → (Identifier → V → ℕ → Type 0) → Identifier → V → ℕ → Type 0
ReachesRun reaches first value n = (k : ℕ) → k < n → reaches first value k

-- the map with a value for each of the first n identifiers from this one on, as the rule gives them
abbrev pub with_run : {V : Type 0} → (Identifier → V → ℕ → V) → Identifier → V → ℕ → FinMap id_cmp V → FinMap id_cmp V
with_run nth first value zero m = m
with_run nth first value (suc n) m = insert (with_run nth first value n m) (id_after first n) (nth first value n)

-- the value is the one that follows that of the identifier before
pub record FollowsByRule {V : Type 0} (nth : Identifier → V → ℕ → V) (reaches : Identifier → V → ℕ → Type 0)
    (value_of : Identifier → Option V) (key : Identifier) (value : V) : Type 0 where
  pub before : Identifier
  pub at_key : id_after before 1 ≡ key
  pub value_before : V
  pub held : value_of before ≡ Some value_before
  pub reached : reaches before value_before 1
  pub follows : nth before value_before 1 ≡ value

-- the next identifier has the value that follows
pub record IsFollowedBy {V : Type 0} (nth : Identifier → V → ℕ → V) (value_of : Identifier → Option V) (key : Identifier) : Type 0 where
  pub value : V
  pub held : value_of key ≡ Some value
  pub followed : value_of (id_after key 1) ≡ Some (nth key value 1)

-- the greatest counter of the replica's identifiers that have a value, and None where none has one
pub record IsGreatestIn {V : Type 0} (value_of : Identifier → Option V) (replica : ℕ) (greatest : Option ℕ) : Type 0 where
  pub none : IsNone greatest → (n : ℕ) → value_of (record { replica = replica; counter = n }) ≡ None
  pub held : IfSome greatest (λ n. IsSome (value_of (record { replica = replica; counter = n })))
  pub bound : IfSome greatest (λ n. (m : ℕ) → IsSome (value_of (record { replica = replica; counter = m })) → m ≤ n)
