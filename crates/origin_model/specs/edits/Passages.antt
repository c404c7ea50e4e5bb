-- How concurrent insertions stand to one another, for every lawful history, honest or not.
use Rattle.std.specs.Prelude.{◌≡◌, ◌≢◌, ◌⊎◌, Bool, Some, true, List, [], ◌∷◌, All}
use Rattle.fugue_ids.specs.Identifiers.{Identifier, id_lt}
use Rattle.fugue_ids.specs.declared.op.Op.{Op}
use Rattle.origin_model.specs.order.Laws.{IsIn}
use Rattle.origin_model.specs.order.Order.{Passes, before, left_at, lefts, right_at, rights}
use Rattle.origin_model.specs.operations.Verdict.{Lawful}
use Rattle.origin_model.specs.declared.operations.Place.{Place}

-- which of two elements stands first
abbrev pub Relation : Type 0
Relation = Identifier → Identifier → Bool

-- by a relation, an element and all whose chains of left origins pass it stand without a gap, the element first
pub record GoTogether (p : Place) (h : List Op) (R : Relation) (x : Identifier) : Type 0 where
  pub first : (e : Identifier) → IsIn p h e → e ≢ x → Passes (lefts h x) (lefts h e) → R x e ≡ true
  pub no_gap : (z e : Identifier) → IsIn p h z → IsIn p h e → Passes (lefts h x) (lefts h e) → R x z ≡ true → R z e ≡ true
      → Passes (lefts h x) (lefts h z)

-- so they stand in the order of their place
abbrev pub StandsTogether : (p : Place) → (h : List Op) → (x : Identifier) → Type 0
StandsTogether p h x = GoTogether p h (before p h) x

-- an element and all whose chains of left origins pass it stand without a gap, it first
abbrev pub Together : Type 0
Together = (p : Place) (h : List Op) (x : Identifier) → Lawful h → IsIn p h x → StandsTogether p h x

-- e is another element with r's left origin whose chain of right origins passes r, or one whose chain of left origins
-- passes such an element
pub record IsOnLeft (p : Place) (h : List Op) (r e : Identifier) : Type 0 where
  pub top : Identifier
  pub member : IsIn p h top
  pub other : top ≢ r
  pub same_left : left_at h top ≡ left_at h r
  pub through : Passes (rights h r) (rights h top)
  pub below : Passes (lefts h top) (lefts h e)

-- by a relation, these stand without a gap directly before r
pub record GoBefore (p : Place) (h : List Op) (R : Relation) (r : Identifier) : Type 0 where
  pub last : (e : Identifier) → IsIn p h e → IsOnLeft p h r e → R e r ≡ true
  pub no_gap : (e z : Identifier) → IsIn p h e → IsIn p h z → IsOnLeft p h r e → R e z ≡ true → R z r ≡ true → IsOnLeft p h r z

-- so they stand in the order of their place
abbrev pub StandsBefore : (p : Place) → (h : List Op) → (r : Identifier) → Type 0
StandsBefore p h r = GoBefore p h (before p h) r

-- what was put on an element's left stands without a gap directly before it
abbrev pub BeforeRight : Type 0
BeforeRight = (p : Place) (h : List Op) (r : Identifier) → Lawful h → IsIn p h r → StandsBefore p h r

-- two distinct elements of one place with equal left and equal right origins
pub record IsTie (p : Place) (h : List Op) (x y : Identifier) : Type 0 where
  pub first : IsIn p h x
  pub second : IsIn p h y
  pub apart : x ≢ y
  pub same_left : left_at h x ≡ left_at h y
  pub same_right : right_at h x ≡ right_at h y

-- they stand by identifier
abbrev pub ByIdentifier : Type 0
ByIdentifier = (p : Place) (h : List Op) (x y : Identifier) → Lawful h → IsTie p h x y → before p h x y ≡ id_lt x y

-- what follows x in a forward passage: each has the one before as left origin
abbrev pub GoesForward : Place → List Op → Identifier → List Identifier → Type 0
GoesForward p h x [] = Unit {0}
GoesForward p h x (y ∷ ys) = IsIn p h y × (left_at h y ≡ Some x) × GoesForward p h y ys

-- what follows x in a backward passage: each has the left origin of x, and the one before as right origin
abbrev pub GoesBackward : Place → List Op → Identifier → List Identifier → Type 0
GoesBackward p h x [] = Unit {0}
GoesBackward p h x (y ∷ ys) = IsIn p h y × (left_at h y ≡ left_at h x) × (right_at h y ≡ Some x) × GoesBackward p h y ys

-- x and then xs are a passage, forward or backward
abbrev pub IsPassage : Place → List Op → Identifier → List Identifier → Type 0
IsPassage p h x xs = GoesForward p h x xs ⊎ GoesBackward p h x xs

-- two passages from distinct elements with the same origins are never mixed: all of one stands before all of the other,
-- by the identifiers of the first elements
abbrev pub NeverMixed : Type 0
NeverMixed =
    (p : Place) (h : List Op) (x y : Identifier) (xs ys : List Identifier) → Lawful h → IsTie p h x y → IsPassage p h x xs
    → IsPassage p h y ys
    → All (λ e. All (λ f. before p h e f ≡ id_lt x y) (y ∷ ys)) (x ∷ xs)
