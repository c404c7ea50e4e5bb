-- Laws of the order, each for every lawful history.
use Rattle.std.specs.Prelude.{◌≡◌, ◌≢◌, ◌↔◌, Some, true, false, not, List, ◌++◌, filter}
use Rattle.std.specs.List.{AllPairs, Contains}
use Rattle.fugue_ids.specs.Identifiers.{Identifier}
use Rattle.fugue_ids.specs.declared.op.Op.{Op}
use Rattle.origin_model.specs.declared.operations.Place.{Place}
use Rattle.origin_model.specs.operations.History.{holder, holds, has_op, element_of}
use Rattle.origin_model.specs.operations.Verdict.{Lawful}
use Rattle.origin_model.specs.order.Order.{IsOrderedBy, order, before}
use Rattle.origin_model.specs.order.Printed.{shown, manuscript}

-- x is an element of p in the history
pub record IsIn (p : Place) (h : List Op) (x : Identifier) : Type 0 where
  pub op : Op
  pub held : holder h x ≡ Some op
  pub place : element_of p op ≡ Some x

-- the elements of one place are in a total order, in which `order` lists each of them once
pub record IsTotal (p : Place) (h : List Op) : Type 0 where
  pub irreflexive : (x : Identifier) → before p h x x ≡ false
  pub one_first : (x y : Identifier) → IsIn p h x → IsIn p h y → x ≢ y → before p h x y ≡ not (before p h y x)
  pub transitive : (x y z : Identifier) → before p h x y ≡ true → before p h y z ≡ true → before p h x z ≡ true
  pub lists : (x : Identifier) → IsIn p h x ↔ Contains (order p h) x
  pub once : AllPairs (λ x y. x ≢ y) (order p h)
  pub agrees : IsOrderedBy (before p h) (order p h)

-- that holds of each place of every lawful history
abbrev pub OrderTotal : Type 0
OrderTotal = (p : Place) (h : List Op) → Lawful h → IsTotal p h

-- the operations of a are all in b
abbrev pub IsPartOf : List Op → List Op → Type 0
IsPartOf a b = (op : Op) → has_op a op ≡ true → has_op b op ≡ true

-- the elements of a stand in b in the same order, with the other elements of b among them
pub record KeepsOrder (p : Place) (a b : List Op) : Type 0 where
  pub same_before : (x y : Identifier) → IsIn p a x → IsIn p a y → before p a x y ≡ before p b x y
  pub same_order : order p a ≡ filter (holds a) (order p b)

-- operations that come later keep the order of the older elements
abbrev pub LaterOpsKeepOrder : Type 0
LaterOpsKeepOrder = (p : Place) (new h : List Op) → Lawful (new ++ h) → KeepsOrder p h (new ++ h)

-- a lawful part of a lawful history has the order of the whole, whichever operations it lacks
abbrev pub PartsKeepOrder : Type 0
PartsKeepOrder = (p : Place) (part whole : List Op) → Lawful part → Lawful whole → IsPartOf part whole → KeepsOrder p part whole

-- two histories have the same operations
abbrev pub SameOps : List Op → List Op → Type 0
SameOps a b = (op : Op) → has_op a op ≡ has_op b op

-- two histories have the same order, and show and print the same
pub record IsSameText (a b : List Op) : Type 0 where
  pub same_order : (p : Place) → order p a ≡ order p b
  pub same_shown : (p : Place) → shown p a ≡ shown p b
  pub same_manuscript : manuscript a ≡ manuscript b

-- the set of the operations alone fixes the order, and what is shown and printed
abbrev pub OrderBySet : Type 0
OrderBySet = (a b : List Op) → Lawful a → Lawful b → SameOps a b → IsSameText a b
