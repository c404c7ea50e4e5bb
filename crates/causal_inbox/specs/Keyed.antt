-- Lists under keys, kept in a map.
use Rattle.std.specs.Prelude.{◌<◌, length, List, [], IfSome, Option, Some, None}
use Rattle.std.specs.BTreeMap.{BTreeMap, get}
use Rattle.std.specs.declared.cmp.Ordering.{Ordering}

-- the items of a list that may be there
abbrev pub waiting_items_of : {V : Type 0} → Option (List V) → List V
waiting_items_of None = []
waiting_items_of (Some list) = list

-- the list under a key: none where the map has no entry
abbrev pub list_in : {K V : Type 0} → (K → K → Ordering) → BTreeMap K (List V) → K → List V
list_in cmp m key = waiting_items_of (get cmp m key)

-- no list that the map keeps is empty
abbrev pub HasNoEmpty : {K V : Type 0} → (K → K → Ordering) → BTreeMap K (List V) → Type 0
HasNoEmpty {K} cmp m = (k : K) → IfSome (get cmp m k) (λ list. 0 < length list)
