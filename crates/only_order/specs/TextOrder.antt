-- The order of a place told by four sentences, which speak of origins and identifiers alone: a relation that meets them
-- is a text order, and there is exactly one.
use Rattle.std.specs.Prelude.{◌≡◌, ◌≢◌, ◌↔◌, Option, Some, None, true, false, not, List, [], ◌∷◌, nat_lt}
use Rattle.std.specs.List.{AllPairs, Contains}
use Rattle.fugue_ids.specs.Identifiers.{Identifier, id_lt}
use Rattle.fugue_ids.specs.Listed.{index_of}
use Rattle.fugue_ids.specs.declared.op.Op.{Op}
use Rattle.origin_model.specs.declared.operations.Place.{Place}
use Rattle.origin_model.specs.operations.Verdict.{Lawful}
use Rattle.origin_model.specs.order.Laws.{IsIn}
use Rattle.origin_model.specs.order.Order.{before, left_at, order, right_at}
use Rattle.origin_model.specs.edits.Passages.{IsTie, Relation}

-- on the elements of p the relation is a strict total order
pub record IsStrictOrder (p : Place) (h : List Op) (R : Relation) : Type 0 where
  pub irreflexive : (x : Identifier) → IsIn p h x → R x x ≡ false
  pub one_first : (x y : Identifier) → IsIn p h x → IsIn p h y → x ≢ y → R x y ≡ not (R y x)
  pub transitive : (x y z : Identifier) → IsIn p h x → IsIn p h y → IsIn p h z → R x y ≡ true → R y z ≡ true → R x z ≡ true

-- the way leads from e up to x: e is x, or the way goes on from one above e
abbrev pub LeadsUp : (Identifier → Identifier → Type 0) → (x e : Identifier) → List Identifier → Type 0
LeadsUp IsAbove x e [] = e ≡ x
LeadsUp IsAbove x e (y ∷ way) = IsAbove y e × LeadsUp IsAbove x y way

-- y is the left origin of e
abbrev pub IsLeft : List Op → (y e : Identifier) → Type 0
IsLeft h y e = left_at h e ≡ Some y

-- e hangs on x: it is x, or its left origin hangs on x
abbrev pub HangsOn : List Op → (x e : Identifier) → Type 0
HangsOn h x e = (way : List Identifier) × LeadsUp (IsLeft h) x e way

-- q is the right origin of u, and has the left origin of u
abbrev pub IsRightSibling : List Op → (q u : Identifier) → Type 0
IsRightSibling h q u = (right_at h u ≡ Some q) × (left_at h q ≡ left_at h u)

-- u was put before r: it is r, or its right sibling was put before r
abbrev pub WasPutBefore : List Op → (r u : Identifier) → Type 0
WasPutBefore h r u = (way : List Identifier) × LeadsUp (IsRightSibling h) r u way

-- e leans on r: it hangs on another element, which was put before r
pub record LeansOn (p : Place) (h : List Op) (r e : Identifier) : Type 0 where
  pub top : Identifier
  pub member : IsIn p h top
  pub other : top ≢ r
  pub put : WasPutBefore h r top
  pub hangs : HangsOn h top e

-- x and all that hangs on it stand without a gap, x first
pub record HeadsBlock (p : Place) (h : List Op) (R : Relation) (x : Identifier) : Type 0 where
  pub first : (e : Identifier) → IsIn p h e → e ≢ x → HangsOn h x e → R x e ≡ true
  pub no_gap : (z e : Identifier) → IsIn p h z → IsIn p h e → HangsOn h x e → R x z ≡ true → R z e ≡ true → HangsOn h x z

-- all that leans on r stands without a gap directly before r
pub record ClosesBlock (p : Place) (h : List Op) (R : Relation) (r : Identifier) : Type 0 where
  pub last : (e : Identifier) → IsIn p h e → LeansOn p h r e → R e r ≡ true
  pub no_gap : (e z : Identifier) → IsIn p h e → IsIn p h z → LeansOn p h r e → R e z ≡ true → R z r ≡ true → LeansOn p h r z

-- the first origin stands later than the second: the end stands after all elements
abbrev pub OriginIsLater : Relation → Option Identifier → Option Identifier → Type 0
OriginIsLater R None (Some b) = Unit {0}
OriginIsLater R (Some a) (Some b) = R b a ≡ true
OriginIsLater R o None = ⊥

-- x and y have one left origin and no right sibling, and the right origin of x stands later
pub record HasLaterRight (p : Place) (h : List Op) (R : Relation) (x y : Identifier) : Type 0 where
  pub first : IsIn p h x
  pub second : IsIn p h y
  pub same_left : left_at h x ≡ left_at h y
  pub alone_x : (q : Identifier) → IsRightSibling h q x → ⊥
  pub alone_y : (q : Identifier) → IsRightSibling h q y → ⊥
  pub later : OriginIsLater R (right_at h x) (right_at h y)

-- the relation is a strict total order of the elements of p, and meets the four sentences
pub record IsTextOrder (p : Place) (h : List Op) (R : Relation) : Type 0 where
  pub strict : IsStrictOrder p h R
  pub together : (x : Identifier) → IsIn p h x → HeadsBlock p h R x
  pub before_right : (r : Identifier) → IsIn p h r → ClosesBlock p h R r
  pub by_identifier : (x y : Identifier) → IsTie p h x y → R x y ≡ id_lt x y
  pub later_right_first : (x y : Identifier) → HasLaterRight p h R x y → R x y ≡ true

-- the order of each place of every lawful history is a text order
abbrev pub OneOrder : Type 0
OneOrder = (p : Place) (h : List Op) → Lawful h → IsTextOrder p h (before p h)

-- and there is no other: every text order agrees with it on all elements
abbrev pub OnlyOrder : Type 0
OnlyOrder = (p : Place) (h : List Op) (R : Relation) → Lawful h → IsTextOrder p h R → (x y : Identifier) → IsIn p h x → IsIn p h y
    → R x y ≡ before p h x y

-- x stands earlier in the list than y
abbrev pub stands_earlier : List Identifier → Relation
stands_earlier xs x y = nat_lt (index_of xs x) (index_of xs y)

-- the list has exactly the elements of p, each once, and they stand in it in a text order
pub record IsText (p : Place) (h : List Op) (xs : List Identifier) : Type 0 where
  pub lists : (x : Identifier) → IsIn p h x ↔ Contains xs x
  pub once : AllPairs (λ x y. x ≢ y) xs
  pub is_order : IsTextOrder p h (stands_earlier xs)

-- `order` is such a list, and there is no other
abbrev pub OnlyList : Type 0
OnlyList = (p : Place) (h : List Op) (xs : List Identifier) → Lawful h → IsText p h xs ↔ (xs ≡ order p h)
