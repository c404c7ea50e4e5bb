-- Walks of small trees, computed from the definitions. Each history is written newest first.
use Rattle.std.specs.Prelude.{◌≡◌, ℕ, Option, Some, None, List, [], ◌∷◌, refl}
use Rattle.fugue_ids.specs.Identifiers.{Identifier}
use Rattle.fugue_ids.specs.declared.op.Op.{Op}
use Rattle.fugue_ids.specs.declared.op.Op.TheVariants.{Section}
use Rattle.origin_model.specs.declared.operations.Place.TheVariants.{Catalogue as catalogue}
use Rattle.origin_model.specs.declared.sides.Slot.TheVariants.{LeftOf, RightOf}
use Rattle.origin_model.specs.sides.Walk.{children_of, walk}

abbrev id : ℕ → ℕ → Identifier
id replica counter = record { replica = replica; counter = counter }

abbrev at : ℕ → ℕ → Option Identifier
at replica counter = Some (id replica counter)

abbrev node : Identifier → Option Identifier → Option Identifier → Op
node x left right = Section x left right []

-- B at the end; A and D before B; X and Y after A, X before B and Y before D
abbrev concurrent : List Op
concurrent =
    node (id 2 1) (at 1 1) (at 2 0) ∷ node (id 3 0) (at 1 1) (at 1 0) ∷ node (id 2 0) None (at 1 0) ∷ node
    (id 1 1) None (at 1 0) ∷ node (id 1 0) None None ∷ []

-- A and D are left children of B; X and Y are right children of A, X first, since B is later than D
concurrent_children :
    (children_of (walk catalogue concurrent) catalogue concurrent (LeftOf (id 1 0)) ≡ id 1 1 ∷ id 2 0 ∷ [])
    × (children_of (walk catalogue concurrent) catalogue concurrent (RightOf (at 1 1)) ≡ id 3 0 ∷ id 2 1 ∷ [])
concurrent_children = (refl, refl)

-- A, X, Y, D, B
concurrent_walk : walk catalogue concurrent ≡ id 1 1 ∷ id 3 0 ∷ id 2 1 ∷ id 2 0 ∷ id 1 0 ∷ []
concurrent_walk = refl

-- P; Q after P; Z after Q and before P, which stands before Q; V after Q, before the end
abbrev backwards : List Op
backwards = node (id 3 0) (at 1 1) None ∷ node (id 2 0) (at 1 1) (at 1 0) ∷ node (id 1 1) (at 1 0) None ∷ node
    (id 1 0) None None ∷ []

-- P, Q, V, Z
backwards_walk : walk catalogue backwards ≡ id 1 0 ∷ id 1 1 ∷ id 3 0 ∷ id 2 0 ∷ []
backwards_walk = refl
