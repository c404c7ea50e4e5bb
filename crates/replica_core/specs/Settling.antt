-- Settling, step by step.
use Rattle.std.specs.Prelude.{◌≡◌, Some}
use Rattle.origin_model.specs.taking.Taking.{Held, settle_step}

-- some steps of settling lead from one state to another
pub data SettlesTo : Held → Held → Type 0 where
  Here : (s : Held) → SettlesTo s s
  Step : (s t u : Held) → settle_step s ≡ Some t → SettlesTo t u → SettlesTo s u
