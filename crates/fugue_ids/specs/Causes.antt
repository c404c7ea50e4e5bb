-- When a call on an object of the outside may answer that it failed.
use Rattle.std.specs.Prelude.{ℕ, ◌≤◌, ◌+◌, ◌-◌, ◌^◌, min, Result, OnErr}

-- the count of faults rose, or stands at its last value
abbrev pub Faulted : ℕ → ℕ → Type 0
Faulted before now = min (before + 1) (2 ^ 64 - 1) ≤ now

-- the count never falls, and it rose where the call failed
pub record HasCause {T E : Type 0} (before now : ℕ) (result : Result T E) : Type 0 where
  pub later : before ≤ now
  pub failed : OnErr result (Faulted before now)
