-- Where the items of a list stand, and their weight.
use Rattle.std.specs.Prelude.{◌≡◌, ℕ, ◌+◌, ◌<◌, false, List, ◌∷◌, ◌++◌, slice_get, sum_by, Option, None, Some, IsSome, option_map}
use Rattle.std.specs.Map.{keys_of}
use Rattle.std.specs.Ordering.{is_lt}
use Rattle.std.specs.BTreeMap.Range.{IsLeBy}
use Rattle.fugue_ids.specs.Identifiers.{Identifier, id_cmp}
use Rattle.node_rope.specs.Items.{value_under}
use Rattle.node_rope.specs.Low.{first_low, last_low}

module _ {T : Type 0} where
  -- the item at i has the key k
  abbrev pub StandsAt : List (Identifier × T) → ℕ → Identifier → Type 0
  StandsAt xs i k = slice_get (keys_of xs) i ≡ Some k

  -- no key stands at two places
  abbrev pub AreKeysDistinct : List (Identifier × T) → Type 0
  AreKeysDistinct xs = (i j : ℕ) (k : Identifier) → StandsAt xs i k → StandsAt xs j k → i ≡ j

  -- the weight of all items
  abbrev pub weight_sum : (T → ℕ) → List (Identifier × T) → ℕ
  weight_sum weight_of = sum_by (λ x. weight_of x.1)

  -- the unit w of the list is the unit r of the item with the key k
  pub record IsUnit (weight_of : T → ℕ) (xs : List (Identifier × T)) (w : ℕ) (k : Identifier) (r : ℕ) : Type 0 where
    pub front : List (Identifier × T)
    pub value : T
    pub back : List (Identifier × T)
    pub split : xs ≡ front ++ (k, value) ∷ back
    pub before : w ≡ weight_sum weight_of front + r
    pub inside : r < weight_of value

  -- the key of the first item whose rank is at most a number, and of the last one
  abbrev pub first_low_key : (T → ℕ) → ℕ → List (Identifier × T) → Option Identifier
  first_low_key rank_of most xs = option_map (λ x. x.0) (first_low (λ x. rank_of x.1) most xs)

  abbrev pub last_low_key : (T → ℕ) → ℕ → List (Identifier × T) → Option Identifier
  last_low_key rank_of most xs = option_map (λ x. x.0) (last_low (λ x. rank_of x.1) most xs)

  -- the greatest key of the list that is not above this one
  abbrev pub IsFloor : List (Identifier × T) → Identifier → Option Identifier → Type 0
  IsFloor xs key None = (q : Identifier) → IsLeBy id_cmp q key → value_under q xs ≡ None
  IsFloor xs key (Some k) =
      IsSome (value_under k xs) × IsLeBy id_cmp k key
      × ((q : Identifier) → IsLeBy id_cmp q key → IsSome (value_under q xs) → is_lt (id_cmp k q) ≡ false)
