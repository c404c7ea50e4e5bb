-- Lists of ages under keys, kept in a map.
use Rattle.std.specs.Prelude.{◌≡◌, ℕ, Bool, List, AllPairs, ◌<◌, if◌then◌else◌, take}
use Rattle.std.specs.BTreeMap.{BTreeMap}
use Rattle.std.specs.declared.cmp.Ordering.{Ordering}
use Rattle.causal_inbox.specs.Index.{with_age}
use Rattle.causal_inbox.specs.Key.{is_among}
use Rattle.causal_inbox.specs.Keyed.{list_in}
use Rattle.causal_inbox.specs.declared.key.Key.{Key}
use Rattle.causal_inbox.specs.contracts.key.KeyOrd.TheImpl as key_ord

-- the order of keys
abbrev pub key_cmp : Key → Key → Ordering
key_cmp = (key_ord.ghosts).cmp

-- the ages under a key
abbrev pub ages_under : BTreeMap Key (List ℕ) → Key → List ℕ
ages_under m key = list_in key_cmp m key

-- the lists under the keys that the test names are changed, and the others stay
abbrev pub Changed : (Key → Bool) → (List ℕ → List ℕ) → (old new : Key → List ℕ) → Type 0
Changed test change old new = (key : Key) → new key ≡ (if test key then change (old key) else old key)

-- the age was added under the first of the keys alone
pub record FrontAdded (keys : List Key) (a : ℕ) (old new : Key → List ℕ) : Type 0 where
  pub count : ℕ
  pub front : Changed (is_among (take count keys)) (λ ages. with_age ages a) old new

-- the ages of each list rise
abbrev pub AllRise : (Key → List ℕ) → Type 0
AllRise at = (key : Key) → AllPairs ◌<◌ (at key)
