-- A replica, as contracts see it, and what is so of every replica.
use Rattle.std.specs.Prelude.{◌≡◌, ◌≢◌, ℕ, ◌<◌, ◌≤◌, ◌+◌, ◌⊎◌, List, ◌++◌, length, AllPairs}
use Rattle.fugue_ids.specs.declared.op.Op.{Op}
use Rattle.fugue_ids.specs.declared.limits.TheConstants.{GREATEST_HOLD, MOST_OPERATIONS}
use Rattle.origin_model.specs.operations.History.{HaveOtherIds}
use Rattle.origin_model.specs.operations.Verdict.{Lawful}
use Rattle.origin_model.specs.taking.Taking.{Held}
use Rattle.origin_model.specs.declared.operations.Verdict.{Verdict}
use Rattle.origin_model.specs.declared.operations.Verdict.TheVariants.{Again, Conflict}

-- a replica: its number, its limits, and what it holds
pub record State : Type 0 where
  -- the replica's own number
  pub number : ℕ
  -- how many operations may wait
  pub hold : ℕ
  -- how many may be accepted or wait
  pub most : ℕ
  pub held : Held

-- the number is from 1 to the greatest
abbrev pub IsWithin : ℕ → ℕ → Type 0
IsWithin greatest n = (0 < n) × (n ≤ greatest)

-- the number is not from 1 to the greatest
abbrev pub IsOutside : ℕ → ℕ → Type 0
IsOutside greatest n = (n ≡ 0) ⊎ (greatest < n)

-- the accepted and the waiting operations
abbrev pub all_ops : Held → List Op
all_ops held = held.history ++ held.waiting

-- neither the operation nor another with its identifier is accepted
abbrev pub IsOpen : Verdict → Type 0
IsOpen Again = ⊥
IsOpen Conflict = ⊥
IsOpen _ = Unit {0}

-- what is so of every replica
pub record IsSound (s : State) : Type 0 where
  pub some_number : 0 < s.number
  pub hold_within : IsWithin GREATEST_HOLD s.hold
  pub most_within : IsWithin MOST_OPERATIONS s.most
  -- each accepted operation was Ready when it came
  pub lawful : Lawful s.held.history
  -- no operation is there twice
  pub once : AllPairs (λ a b. a ≢ b) (all_ops s.held)
  -- no two have one identifier
  pub own_ids : AllPairs HaveOtherIds (all_ops s.held)
  pub few_wait : length s.held.waiting ≤ s.hold
  pub few : length s.held.history + length s.held.waiting ≤ s.most
