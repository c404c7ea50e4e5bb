-- Maps from keys to values: a value is put under one key, and those under other keys stay.
use Rattle.std.specs.Prelude.{◌≡◌, false}
use Rattle.std.specs.Ordering.{is_eq}
use Rattle.std.specs.declared.cmp.Ordering.{Ordering}

-- the key has another value, and other keys have the values that they had
pub record IsReplaced {K X : Type 0} (old new : K → X) (key : K) (value : X) : Type 0 where
  pub here : new key ≡ value
  pub others : (k : K) → (k ≡ key → ⊥) → new k ≡ old k

-- the same, where an order alone tells keys apart
pub record IsReplacedBy {K X : Type 0} (cmp : K → K → Ordering) (old new : K → X) (key : K) (value : X) : Type 0 where
  pub here : new key ≡ value
  pub others : (k : K) → is_eq (cmp key k) ≡ false → new k ≡ old k
