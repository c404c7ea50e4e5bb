-- The order of a place by sides: a tree whose nodes have left and right children, after Weidner and Kleppmann, "The Art of the Fugue".
use Rattle.std.specs.Prelude.{◌≡◌, ◌↔◌, Option, Some, None, Bool, true, false, if◌then◌else◌, List, [], ◌∷◌, ◌++◌}
use Rattle.std.specs.List.{All, Contains}
use Rattle.fugue_ids.specs.Identifiers.{Identifier, id_eq}
use Rattle.fugue_ids.specs.declared.key.Gap.{Gap}
use Rattle.fugue_ids.specs.declared.key.Gap.TheVariants.{Alone, Before, After}
use Rattle.fugue_ids.specs.declared.op.Op.{Op}
use Rattle.origin_model.specs.operations.History.{holder, left_of, right_of, element_of}
use Rattle.origin_model.specs.order.Order.{IsOrderedBy, has_left, order, fork_before, index_of_origin, precedes, right_at}
use Rattle.origin_model.specs.declared.operations.Place.{Place}
use Rattle.origin_model.specs.declared.sides.Slot.{Slot}
use Rattle.origin_model.specs.declared.sides.Slot.TheVariants.{LeftOf, RightOf}

-- where an element with these origins hangs: a left child of the right origin exactly where that is an element with the same left origin,
-- otherwise a right child of the left origin
abbrev pub slot_by : List Op → Option Identifier → Option Identifier → Slot
slot_by history left None = RightOf left
slot_by history left (Some r) = if has_left history r left then LeftOf r else RightOf left

-- where an element hangs
abbrev pub slot_of : List Op → Op → Slot
slot_of history op = slot_by history (left_of op) (right_of op)

-- v is an element of p that hangs in the slot
pub record IsChild (p : Place) (h : List Op) (s : Slot) (v : Identifier) : Type 0 where
  pub op : Op
  pub held : holder h v ≡ Some op
  pub place : element_of p op ≡ Some v
  pub slot : slot_of h op ≡ s

-- the tables of a place: each slot has its children, in order
pub record IsTable (p : Place) (h : List Op) (children : Slot → List Identifier) : Type 0 where
  pub sound : (s : Slot) (v : Identifier) → Contains (children s) v → IsChild p h s v
  pub full : (s : Slot) (v : Identifier) → IsChild p h s v → Contains (children s) v
  pub sorted : (s : Slot) → IsOrderedBy (fork_before (order p h) h) (children s)

-- y is the last node below s: the path goes from last right child to last right child
abbrev pub LastBelow : (Slot → List Identifier) → List Identifier → Identifier → Identifier → Type 0
LastBelow children [] s y = (children (RightOf (Some s)) ≡ []) × (s ≡ y)
LastBelow children (v ∷ vs) s y = ((front : List Identifier) × (children (RightOf (Some s)) ≡ front ++ v ∷ [])) × LastBelow children vs v y

-- y is the first node below q: the path goes from first left child to first left child
abbrev pub FirstBelow : (Slot → List Identifier) → List Identifier → Identifier → Identifier → Type 0
FirstBelow children [] q y = (children (LeftOf q) ≡ []) × (q ≡ y)
FirstBelow children (v ∷ vs) q y = ((rest : List Identifier) × (children (LeftOf q) ≡ v ∷ rest)) × FirstBelow children vs v y

-- a sibling v goes before the new element x of the operation, by their right origins
abbrev pub goes_before : List Identifier → List Op → Op → Identifier → Identifier → Bool
goes_before finished older op x v = precedes (index_of_origin finished (right_at older v)) (index_of_origin finished (right_of op)) v x

-- the children of a slot, parted where the new element x of the operation goes in
pub record IsParted (finished : List Identifier) (older : List Op) (op : Op) (x : Identifier)
    (children earlier later : List Identifier) : Type 0 where
  pub whole : children ≡ earlier ++ later
  pub earlier_sibling : All (λ v. goes_before finished older op x v ≡ true) earlier
  pub later_sibling : All (λ v. goes_before finished older op x v ≡ false) later

-- y is the last node below the last of the earlier siblings
pub record AfterEarlierSibling (children : Slot → List Identifier) (earlier : List Identifier) (y : Identifier) : Type 0 where
  pub front : List Identifier
  pub earlier_sibling : Identifier
  pub is_last : earlier ≡ front ++ earlier_sibling ∷ []
  pub path : List Identifier
  pub below : LastBelow children path earlier_sibling y

-- y is the first node below q
pub record BeforeBlock (children : Slot → List Identifier) (q y : Identifier) : Type 0 where
  pub path : List Identifier
  pub below : FirstBelow children path q y

-- y is the first node below the first of the later siblings
pub record BeforeFirst (children : Slot → List Identifier) (later : List Identifier) (y : Identifier) : Type 0 where
  pub later_sibling : Identifier
  pub rest : List Identifier
  pub is_first : later ≡ later_sibling ∷ rest
  pub block : BeforeBlock children later_sibling y

-- the gap where x has no earlier sibling: after the parent of right children, before the first node below the parent of left children,
-- before all for the first right child of the start, and alone for its only one
abbrev pub NoEarlierSibling : (Slot → List Identifier) → Slot → List Identifier → Gap → Type 0
NoEarlierSibling children (RightOf (Some l)) later (After y) = l ≡ y
NoEarlierSibling children (LeftOf q) later (Before y) = BeforeBlock children q y
NoEarlierSibling children (RightOf None) later (Before y) = BeforeFirst children later y
NoEarlierSibling children (RightOf None) later Alone = later ≡ []
NoEarlierSibling _ _ _ _ = ⊥

-- the gap where x has earlier siblings: after the last node below the last of them
abbrev pub HasEarlierSibling : (Slot → List Identifier) → List Identifier → Gap → Type 0
HasEarlierSibling children earlier (After y) = AfterEarlierSibling children earlier y
HasEarlierSibling _ _ _ = ⊥

-- the gap, by the slot of x and its earlier and later siblings there
abbrev pub IsGap : (Slot → List Identifier) → Slot → List Identifier → List Identifier → Gap → Type 0
IsGap children s [] later g = NoEarlierSibling children s later g
IsGap children s (e ∷ es) later g = HasEarlierSibling children (e ∷ es) g

-- x inserted directly after y, and at the end where there is no y
abbrev pub inserted_after : Identifier → Identifier → List Identifier → List Identifier
inserted_after y x [] = x ∷ []
inserted_after y x (e ∷ es) = if id_eq e y then e ∷ x ∷ es else e ∷ inserted_after y x es

-- x inserted directly before y
abbrev pub inserted_before : Identifier → Identifier → List Identifier → List Identifier
inserted_before y x [] = x ∷ []
inserted_before y x (e ∷ es) = if id_eq e y then x ∷ e ∷ es else e ∷ inserted_before y x es

-- the list with x in the gap
abbrev pub at_gap : Gap → Identifier → List Identifier → List Identifier
at_gap Alone x es = x ∷ es
at_gap (Before y) x es = inserted_before y x es
at_gap (After y) x es = inserted_after y x es

-- the gap's neighbour is a member
abbrev pub IsBeside : Gap → List Identifier → Type 0
IsBeside Alone es = Unit {0}
IsBeside (Before y) es = Contains es y
IsBeside (After y) es = Contains es y

-- x stands in the gap: with it, the finished list is the longer one
pub record IsPlace (g : Gap) (x : Identifier) (finished longer : List Identifier) : Type 0 where
  pub place : longer ≡ at_gap g x finished
  pub beside : IsBeside g finished
  pub alone : (g ≡ Alone) ↔ (finished ≡ [])
