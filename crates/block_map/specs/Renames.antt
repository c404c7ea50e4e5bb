-- Another key for a value.
use Rattle.std.specs.Prelude.{◌≡◌, Option, None}

-- `to` has the value that `from` had, `from` has none, and each other key has what it had
pub record IsRenamed {K V : Type 0} (old new : K → Option V) (from to : K) : Type 0 where
  pub here : new to ≡ old from
  pub gone : new from ≡ None
  pub others : (k : K) → (k ≡ from → ⊥) → (k ≡ to → ⊥) → new k ≡ old k
