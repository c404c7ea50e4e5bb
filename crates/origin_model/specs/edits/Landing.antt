-- Where an element lands whose origins stand next to each other.
use Rattle.std.specs.Prelude.{◌≡◌, Option, Some, None, List, [], ◌∷◌, ◌++◌, Contains, IfSome, if◌then◌else◌}
use Rattle.fugue_ids.specs.Identifiers.{Identifier, id_eq}
use Rattle.fugue_ids.specs.Listed.{last_before}
use Rattle.fugue_ids.specs.declared.op.Op.{Op}
use Rattle.origin_model.specs.operations.History.{left_of, right_of, element_of}
use Rattle.origin_model.specs.order.Order.{left_at, order}
use Rattle.origin_model.specs.operations.Verdict.{Lawful}
use Rattle.origin_model.specs.declared.operations.Place.{Place}

-- the first of the elements that follow: the end, where there is none
abbrev pub first_after : List Identifier → Option Identifier
first_after [] = None
first_after (e ∷ es) = Some e

-- the element that follows an origin: the first for the start, the end where none follows
abbrev pub following : List Identifier → Option Identifier → Option Identifier
following es None = first_after es
following [] (Some l) = None
following (e ∷ es) (Some l) = if id_eq e l then first_after es else following es (Some l)

-- an element whose right origin stands directly after its left origin lands between them
abbrev pub LandsBehind : Type 0
LandsBehind =
    (p : Place) (op : Op) (older : List Op) (x : Identifier) (front back : List Identifier) → Lawful (op ∷ older) → element_of p op ≡ Some x
    → order p older ≡ front ++ back → left_of op ≡ last_before front → right_of op ≡ first_after back
    → order p (op ∷ older) ≡ front ++ x ∷ back

-- new elements stand directly after a left origin, in their order, and the others as before
pub record StandsAfter (left : Option Identifier) (new before after : List Identifier) : Type 0 where
  pub front : List Identifier
  pub back : List Identifier
  pub was : before ≡ front ++ back
  pub origin : last_before front ≡ left
  pub is : after ≡ front ++ new ++ back

-- the same law by the element that follows the left origin, which is the start or an element of the place
abbrev pub LandsBehindOrigin : Type 0
LandsBehindOrigin =
    (p : Place) (op : Op) (older : List Op) (x : Identifier) → Lawful (op ∷ older) → element_of p op ≡ Some x
    → IfSome (left_of op) (λ l. Contains (order p older) l) → right_of op ≡ following (order p older) (left_of op)
    → StandsAfter (left_of op) (x ∷ []) (order p older) (order p (op ∷ older))

-- no element has it as its left origin
abbrev pub IsLeaf : List Op → Identifier → Type 0
IsLeaf h l = (u : Identifier) → left_at h u ≡ Some l → ⊥

-- an element whose left origin is no other element's lands directly after that, wherever its right origin stands
abbrev pub LandsBehindLeaf : Type 0
LandsBehindLeaf =
    (p : Place) (op : Op) (older : List Op) (x l : Identifier) (front back : List Identifier) → Lawful (op ∷ older)
    → element_of p op ≡ Some x
    → left_of op ≡ Some l → IsLeaf older l → order p older ≡ front ++ l ∷ back
    → order p (op ∷ older) ≡ front ++ l ∷ x ∷ back

-- an element that was accepted directly after its left origin lands directly after it
abbrev pub LandsBehindNewest : Type 0
LandsBehindNewest =
    (p : Place) (next op : Op) (older : List Op) (x l : Identifier) (front back : List Identifier) → Lawful (next ∷ op ∷ older)
    → element_of p op ≡ Some l
    → element_of p next ≡ Some x → left_of next ≡ Some l → order p (op ∷ older) ≡ front ++ l ∷ back
    → order p (next ∷ op ∷ older) ≡ front ++ l ∷ x ∷ back
