-- Lists of elements with keys: an element's depth in the FugueMax tree, and its forest. Keys are ordered by depth, then by forest.
use Rattle.std.specs.Prelude.{◌≡◌, ◌<◌, ◌^◌, nat_eq, nat_lt, Option, Some, None, Bool, true, false, not, ◌&&◌, ◌||◌, if◌then◌else◌, List}
use Rattle.std.specs.Prelude.{[], ◌∷◌, map, filter}
use Rattle.fugue_ids.specs.Identifiers.{Identifier, id_eq}
use Rattle.fugue_ids.specs.declared.key.Key.{Key}

-- an element's identifier and its key
pub record Keyed : Type 0 where
  pub id : Identifier
  pub key : Key

-- the identifiers of the elements
abbrev pub ids : List Keyed → List Identifier
ids es = map (λ e. e.id) es

-- one key is less than another
abbrev pub key_lt : Key → Key → Bool
key_lt k l = nat_lt k.depth l.depth || (nat_eq k.depth l.depth && nat_lt k.forest l.forest)

-- the element's key is at most k
abbrev pub is_low : Key → Keyed → Bool
is_low k e = not (key_lt k e.key)

-- both numbers of the key fit in 32 bits
abbrev pub IsFit : Keyed → Type 0
IsFit e = (e.key.depth < 2 ^ 32) × (e.key.forest < 2 ^ 32)

-- the elements after x; None stands for the start
abbrev pub rest_of : Option Identifier → List Keyed → List Keyed
rest_of None es = es
rest_of (Some x) [] = []
rest_of (Some x) (e ∷ es) = if id_eq e.id x then es else rest_of (Some x) es

-- the elements before x; None stands for the end
abbrev pub front_of : Option Identifier → List Keyed → List Keyed
front_of None es = es
front_of (Some x) [] = []
front_of (Some x) (e ∷ es) = if id_eq e.id x then [] else e ∷ front_of (Some x) es

-- the elements after x and before y
abbrev pub between : Option Identifier → Option Identifier → List Keyed → List Keyed
between x y es = front_of y (rest_of x es)

-- the identifier of the first element
abbrev pub first_id : List Keyed → Option Identifier
first_id [] = None
first_id (e ∷ es) = Some e.id

-- the identifier of the last element
abbrev pub last_id : List Keyed → Option Identifier
last_id [] = None
last_id (e ∷ []) = Some e.id
last_id (e ∷ f ∷ es) = last_id (f ∷ es)

-- the identifiers of the elements whose key is at most k
abbrev pub low_ids : Key → List Keyed → List Identifier
low_ids k es = ids (filter (is_low k) es)

-- the identifier of the first element whose key is at most k
abbrev pub first_low : Key → List Keyed → Option Identifier
first_low k es = first_id (filter (is_low k) es)

-- the identifier of the last element whose key is at most k
abbrev pub last_low : Key → List Keyed → Option Identifier
last_low k es = last_id (filter (is_low k) es)

-- the element x of the list has the key k
abbrev pub HasKey : List Keyed → Identifier → Key → Type 0
HasKey [] x k = ⊥
HasKey (e ∷ es) x k = elim (id_eq e.id x) [ true ↦ (e.key ≡ k) | false ↦ HasKey es x k ]
