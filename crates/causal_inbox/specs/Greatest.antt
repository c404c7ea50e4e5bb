-- The greatest counter of a replica among the identifiers of keys.
use Rattle.std.specs.Prelude.{◌≡◌, ◌≤◌, ℕ, List, false, Option, None, IsNone, IsSome, IfSome}
use Rattle.std.specs.BTreeMap.{BTreeMap, get}
use Rattle.std.specs.Ordering.{is_lt}
use Rattle.causal_inbox.specs.Lists.{key_cmp}
use Rattle.causal_inbox.specs.declared.key.Key.{Key}

-- the last key that has a list, among those of the replica and of lesser ones
pub record IsLastKey (lists : BTreeMap Key (List ℕ)) (replica : ℕ) (found : Option Key) : Type 0 where
  pub none : IsNone found → (k : Key) → k.id.replica ≤ replica → get key_cmp lists k ≡ None
  pub some : IfSome found (λ key. IsSome (get key_cmp lists key))
  pub within : IfSome found (λ key. key.id.replica ≤ replica)
  pub last : IfSome found (λ key. (k : Key) → k.id.replica ≤ replica → IsSome (get key_cmp lists k) → is_lt (key_cmp key k) ≡ false)

-- the greatest counter of the replica among the identifiers of the keys that have a list
pub record IsGreatestUnder (lists : BTreeMap Key (List ℕ)) (replica : ℕ) (greatest : Option ℕ) : Type 0 where
  pub none : IsNone greatest → (k : Key) → k.id.replica ≡ replica → get key_cmp lists k ≡ None
  pub member : IfSome greatest (λ n. (key : Key) × (key.id.replica ≡ replica) × (key.id.counter ≡ n) × IsSome (get key_cmp lists key))
  pub bound : IfSome greatest (λ n. (k : Key) → k.id.replica ≡ replica → IsSome (get key_cmp lists k) → k.id.counter ≤ n)
