-- A node that is no origin, taken out of its place.
use Rattle.std.specs.Prelude.{◌≢◌, Some, not, List, [], ◌∷◌, filter}
use Rattle.fugue_ids.specs.Identifiers.{Identifier, id_eq}
use Rattle.origin_model.specs.declared.operations.node.Node.{Node}

-- no node of the list has x as an origin
abbrev pub NoOrigin : Identifier → List Node → Type 0
NoOrigin x [] = Unit {0}
NoOrigin x (n ∷ ns) = (n.left ≢ Some x) × (n.right ≢ Some x) × NoOrigin x ns

-- the list without the node x
abbrev pub without : Identifier → List Node → List Node
without x ns = filter (λ n. not (id_eq n.id x)) ns
