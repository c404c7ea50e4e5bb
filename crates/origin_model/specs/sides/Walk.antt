-- The order of a place as Weidner and Kleppmann, "The Art of the Fugue", tell it: the walk of the tree of sides.
-- It is told without chains of origins, and without `order`; that both tell one order is the law at the end.
use Rattle.std.specs.Prelude.{◌≡◌, ◌≤◌, ℕ, zero, suc, Option, Some, None, option_to_list, Bool, false, List, [], ◌∷◌, ◌++◌, length, filter}
use Rattle.std.specs.Prelude.{flat_map}
use Rattle.fugue_ids.specs.Identifiers.{Identifier, id_eq, id_lt, origin_eq}
use Rattle.fugue_ids.specs.declared.op.Op.{Op}
use Rattle.origin_model.specs.declared.operations.Place.{Place}
use Rattle.origin_model.specs.declared.sides.Slot.{Slot}
use Rattle.origin_model.specs.declared.sides.Slot.TheVariants.{LeftOf, RightOf}
use Rattle.origin_model.specs.operations.History.{element_of, holder}
use Rattle.origin_model.specs.operations.Verdict.{Lawful}
use Rattle.origin_model.specs.order.Order.{fork_before, older_of, order, placed}
use Rattle.origin_model.specs.sides.Slot.{slot_of}

-- whether two slots are equal
abbrev pub slot_eq : Slot → Slot → Bool
slot_eq (RightOf a) (RightOf b) = origin_eq a b
slot_eq (RightOf a) (LeftOf b) = false
slot_eq (LeftOf a) (RightOf b) = false
slot_eq (LeftOf a) (LeftOf b) = id_eq a b

-- whether what a look-up found hangs in the slot
abbrev pub hangs_by : List Op → Slot → Option Op → Bool
hangs_by h s o = elim o [ None ↦ false | Some op ↦ slot_eq (slot_of h op) s ]

-- v hangs in the slot
abbrev pub hangs : List Op → Slot → Identifier → Bool
hangs h s v = hangs_by h s (holder h v)

-- the elements of a place, the newest first
abbrev pub elements : Place → List Op → List Identifier
elements p [] = []
elements p (op ∷ older) = option_to_list (element_of p op) ++ elements p older

-- u stands before v among the children of a slot. Of right children the one with the later right origin goes first, the
-- end being later than every element, and with one right origin the one with the smaller identifier; of left children
-- the one with the smaller identifier. `finished` lists in order what right origins can name
abbrev pub child_before : List Identifier → List Op → Slot → Identifier → Identifier → Bool
child_before finished h (RightOf l) u v = fork_before finished h u v
child_before finished h (LeftOf q) u v = id_lt u v

-- members sorted: each goes in after as many others as stand before it
abbrev pub sorted : (Identifier → Identifier → Bool) → List Identifier → List Identifier
sorted R [] = []
sorted R (x ∷ xs) = placed (λ y. R y x) (sorted R xs) x

-- the children of a slot, in order
abbrev pub children_of : List Identifier → Place → List Op → Slot → List Identifier
children_of finished p h s = sorted (child_before finished h s) (filter (hangs h s) (elements p h))

-- the walk below a slot, down to a depth: child after child, its left children, the child itself, its right children
abbrev pub walk_below : (Slot → List Identifier) → ℕ → Slot → List Identifier
walk_below children zero s = []
walk_below children (suc depth) s =
    let below : Slot → List Identifier = walk_below children depth in
    flat_map (λ v. below (LeftOf v) ++ v ∷ below (RightOf (Some v))) (children s)

-- the walk of the tree from the start, down to a depth; `finished` is the walk before the newest operation
abbrev pub walk_to : ℕ → List Identifier → Place → List Op → List Identifier
walk_to depth finished p h = walk_below (children_of finished p h) depth (RightOf None)

-- the walk of the whole tree: no node hangs deeper than there are operations
abbrev pub walk : Place → List Op → List Identifier
walk p [] = []
walk p (op ∷ older) = walk_to (length (op ∷ older)) (walk p older) p (op ∷ older)

-- the order of a place is the walk of its tree
abbrev pub WalkIsOrder : Type 0
WalkIsOrder = (p : Place) (h : List Op) → Lawful h → walk p h ≡ order p h

-- and a walk that goes deeper lists nothing more
abbrev pub WalkIsWhole : Type 0
WalkIsWhole =
    (p : Place) (h : List Op) (depth : ℕ) → Lawful h → length h ≤ depth
    → walk_to depth (walk p (older_of h)) p h ≡ order p h
