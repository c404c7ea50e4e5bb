-- The calls on an object in memory, of which some are to fail.
use Rattle.std.specs.Prelude.{ℕ, ◌+◌, ◌-◌, ◌^◌, min, List, Contains}

-- the calls that were made of an object in memory
pub record CallsView : Type 0 where
  -- how many were made
  pub made : ℕ
  -- the numbers of those that are to fail, counted from 0
  pub listed : List ℕ
  -- how many failed
  pub faults : ℕ

-- the next call is one of those that are to fail
abbrev pub FailsNext : CallsView → Type 0
FailsNext calls = Contains calls.listed calls.made

-- a count one higher, or at its last value
abbrev pub risen : ℕ → ℕ
risen count = min (count + 1) (2 ^ 64 - 1)

-- a call more, which went well
abbrev pub call_passed : CallsView → CallsView
call_passed calls = record calls { made = risen calls.made }

-- a call more, which failed
abbrev pub call_failed : CallsView → CallsView
call_failed calls = record calls { made = risen calls.made; faults = risen calls.faults }
