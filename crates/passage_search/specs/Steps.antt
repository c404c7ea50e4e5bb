-- How near to each other two places of a passage can be.
use Rattle.std.specs.Prelude.{◌≡◌, ℕ, ◌<◌, ◌≤◌, true, List, length, slice_index}
use Rattle.memchr.specs.Critical.{IsPeriod, NoPeriodBelow}
use Rattle.passage_search.specs.declared.steps.Step.{Step}

-- no period of the passage is less than the step, and the step is one itself where the passage repeats
pub record IsSafeStep (passage : List ℕ) (step : Step) : Type 0 where
  pub some : 0 < step.bytes
  pub within : step.bytes ≤ length passage
  pub least : NoPeriodBelow (slice_index passage) (length passage) step.bytes
  pub repeats : step.repeats ≡ true → IsPeriod (slice_index passage) (length passage) step.bytes
