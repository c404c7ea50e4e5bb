-- Laws of keys, each for every lawful history.
use Rattle.std.specs.Prelude.{◌≡◌, ◌<◌, ◌≤◌, Some, None, true, suc, List, ◌∷◌, length}
use Rattle.std.specs.List.{All, Contains}
use Rattle.fugue_ids.specs.Identifiers.{Identifier}
use Rattle.fugue_ids.specs.Keys.{IsFit}
use Rattle.fugue_ids.specs.Listed.{HoldsOrigin}
use Rattle.fugue_ids.specs.declared.op.Op.{Op}
use Rattle.origin_model.specs.declared.operations.Place.{Place}
use Rattle.origin_model.specs.declared.sides.Slot.{Slot}
use Rattle.origin_model.specs.declared.sides.Slot.TheVariants.{LeftOf, RightOf}
use Rattle.origin_model.specs.operations.History.{element_of, holder, holds, left_of, right_of}
use Rattle.origin_model.specs.operations.Verdict.{Lawful}
use Rattle.origin_model.specs.order.Laws.{IsIn}
use Rattle.origin_model.specs.order.Order.{order}
use Rattle.origin_model.specs.sides.KeyedGap.{block_end, block_start, gap_by_keys, siblings, slot_key}
use Rattle.origin_model.specs.sides.Keys.{depth_of, forest_of, search_key_of, with_keys, new_key}
use Rattle.origin_model.specs.sides.Node.{node_order}
use Rattle.origin_model.specs.declared.operations.node.Node.{Node}
use Rattle.origin_model.specs.sides.Slot.{BeforeBlock, IsPlace, IsTable, LastBelow, goes_before, slot_of}

-- each key of the place fits its numbers
abbrev pub AllFit : Place → List Op → Type 0
AllFit p h = All IsFit (with_keys h (order p h))

-- the element of the slot is one of the place
abbrev pub StandsAt : Place → List Op → Slot → Type 0
StandsAt p h (RightOf None) = Unit {0}
StandsAt p h (RightOf (Some l)) = IsIn p h l
StandsAt p h (LeftOf q) = IsIn p h q

-- the element of the slot is one of the list
abbrev pub HoldsElement : List Identifier → Slot → Type 0
HoldsElement list (RightOf l) = HoldsOrigin list l
HoldsElement list (LeftOf q) = Contains list q

-- it is one of the nodes
abbrev pub HoldsSlot : List Node → Slot → Type 0
HoldsSlot ns s = HoldsElement (node_order ns) s

-- y is the last node below s
pub record EndsBlock (children : Slot → List Identifier) (s y : Identifier) : Type 0 where
  pub path : List Identifier
  pub below : LastBelow children path s y

-- the last node below s is found by the depth of s
abbrev pub BlockEndByKeys : Type 0
BlockEndByKeys =
    (p : Place) (h : List Op) (children : Slot → List Identifier) (s : Identifier) → Lawful h → AllFit p h → IsTable p h children
    → IsIn p h s
    → EndsBlock children s (block_end (with_keys h (order p h)) (depth_of h s) s)

-- the first node below q is found by the key of q
abbrev pub BlockStartByKeys : Type 0
BlockStartByKeys =
    (p : Place) (h : List Op) (children : Slot → List Identifier) (q : Identifier) → Lawful h → AllFit p h → IsTable p h children
    → IsIn p h q
    → BeforeBlock children q (block_start (with_keys h (order p h)) (search_key_of h q) q)

-- the siblings found by keys are the children of the slot, in order
abbrev pub SiblingsByKeys : Type 0
SiblingsByKeys =
    (p : Place) (h : List Op) (children : Slot → List Identifier) (s : Slot) → Lawful h → AllFit p h → IsTable p h children → StandsAt p h s
    → siblings (with_keys h (order p h)) s (slot_key h s) ≡ children s

-- the gap found by keys is the place of a new element
abbrev pub GapByKeys : Type 0
GapByKeys =
    (p : Place) (op : Op) (older : List Op) (x : Identifier) → Lawful (op ∷ older) → element_of p op ≡ Some x → AllFit p older
    → let s = slot_of older op in
    let listed = order p older in
    IsPlace (gap_by_keys (with_keys older listed) s (slot_key older s) (goes_before listed older op x)) x listed (order p (op ∷ older))

-- the key of a new element is known from those of its origins
abbrev pub NewKey : Type 0
NewKey =
    (p : Place) (op : Op) (older : List Op) (x : Identifier) → Lawful (op ∷ older) → element_of p op ≡ Some x
    → search_key_of (op ∷ older) x ≡ new_key older (left_of op) (right_of op)

-- a later operation leaves the keys of what is there
abbrev pub KeysStay : Type 0
KeysStay = (p : Place) (op : Op) (older : List Op) → Lawful (op ∷ older)
    → with_keys (op ∷ older) (order p older) ≡ with_keys older (order p older)

-- an element after its left origin, with the same right origin, as in a passage that is typed, is deeper by one, and its forest is 0
abbrev pub RunKey : Type 0
RunKey =
    (h : List Op) (x y : Identifier) (first second : Op) → Lawful h → holder h x ≡ Some first → holder h y ≡ Some second
    → left_of second ≡ Some x → right_of second ≡ right_of first → (depth_of h y ≡ suc (depth_of h x)) × (forest_of h y ≡ 0)

-- no key has numbers greater than the number of operations
abbrev pub KeyBound : Type 0
KeyBound = (h : List Op) (x : Identifier) → holds h x ≡ true → (depth_of h x ≤ length h) × (forest_of h x < length h)
