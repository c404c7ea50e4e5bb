-- The greatest of the keys that have a value.
use Rattle.std.specs.Prelude.{◌≡◌, false, Option, None, Some, IsSome}
use Rattle.std.specs.Ordering.{is_lt}
use Rattle.std.specs.declared.cmp.Ordering.{Ordering}
use Rattle.std.specs.BTreeMap.Range.{IsLeBy}
use Rattle.fugue_ids.specs.Identifiers.{Identifier, id_cmp}

-- no key for which P holds has a value
abbrev pub HasNone : {K V : Type 0} → (K → Type 0) → (K → Option V) → Type 0
HasNone {K} P f = (k : K) → P k → f k ≡ None

-- the greatest key for which P holds that has a value, with the value
pub record IsGreatestKey {K V : Type 0} (cmp : K → K → Ordering) (P : K → Type 0) (f : K → Option V) (e : K × V) : Type 0 where
  pub among : P e.0
  pub held : f e.0 ≡ Some e.1
  pub greatest : (k : K) → P k → IsSome (f k) → is_lt (cmp e.0 k) ≡ false

-- the greatest identifier with a value that is not above this one
abbrev pub IsFloorKey : {V : Type 0} → (Identifier → Option V) → Identifier → Option Identifier → Type 0
IsFloorKey f key None = (q : Identifier) → IsLeBy id_cmp q key → f q ≡ None
IsFloorKey f key (Some k) =
    IsSome (f k) × IsLeBy id_cmp k key × ((q : Identifier) → IsLeBy id_cmp q key → IsSome (f q) → is_lt (id_cmp k q) ≡ false)
