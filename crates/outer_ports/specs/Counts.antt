-- What a call does to the count of faults.
use Rattle.std.specs.Prelude.{◌≡◌, ℕ, Option, Result, IfSome, OnOk, OnErr}
use Rattle.fugue_ids.specs.Causes.{HasCause}
use Rattle.outer_ports.specs.Calls.{risen}

-- on a form over the system the count rises with a failure, and with nothing else
pub record CountsFaults {E T : Type 0} (before now : ℕ) (result : Result T E) : Type 0 where
  pub passed : OnOk result (now ≡ before)
  pub failed : OnErr result (now ≡ risen before)

-- the count never falls, and a failure raised it; where calls are sure, one fails for this excuse alone, and one that
-- does not fail leaves the count
pub record FailsOnlyFor {A E T : Type 0} (sure : Option A) (excuse : A → Type 0) (before now : ℕ) (result : Result T E) : Type 0 where
  pub cause : HasCause before now result
  pub excused : IfSome sure (λ left. OnErr result (excuse left))
  pub counts_no_fault : IfSome sure (λ left. OnOk result (now ≡ before))
