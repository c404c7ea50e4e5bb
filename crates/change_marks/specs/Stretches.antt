-- A list in its longest stretches of elements that have one key. Elements without a key count for nothing.
use Rattle.std.specs.Prelude.{ℕ, nat_eq, Bool, Option, Some, None, if◌then◌else◌, List, [], ◌∷◌}
use Rattle.fugue_ids.specs.Identifiers.{Identifier}

-- neighbours in a list that have one key
pub record Stretch (K : Type 0) : Type 0 where
  pub key : K
  pub elements : List Identifier

-- an element in front of stretches: it belongs to the first one where that has its key
abbrev pub joined_stretch : {K : Type 0} → (K → K → Bool) → K → Identifier → List (Stretch K) → List (Stretch K)
joined_stretch same k x [] = record { key = k; elements = x ∷ [] } ∷ []
joined_stretch same k x (s ∷ ss) =
    if same k s.key then record { key = k; elements = x ∷ s.elements } ∷ ss else record { key = k; elements = x ∷ [] } ∷ s ∷ ss

-- the stretches of a list, by the keys of its elements
abbrev pub stretches : {K : Type 0} → (K → K → Bool) → (Identifier → Option K) → List Identifier → List (Stretch K)
stretches same key [] = []
stretches same key (x ∷ xs) = elim (key x) [ None ↦ stretches same key xs | Some k ↦ joined_stretch same k x (stretches same key xs) ]

-- the stretches of elements that one replica made
abbrev pub by_replica : List Identifier → List (Stretch ℕ)
by_replica xs = stretches nat_eq (λ x. Some x.replica) xs
