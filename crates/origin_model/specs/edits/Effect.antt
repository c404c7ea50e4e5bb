-- What edits leave, and where they land.
use Rattle.std.specs.Prelude.{◌≡◌, ◌≢◌, ℕ, ◌<◌, Some, List, [], ◌++◌, length, take}
use Rattle.fugue_ids.specs.Identifiers.{Identifier}
use Rattle.fugue_ids.specs.declared.op.Op.{Op}
use Rattle.origin_model.specs.operations.History.{accepted}
use Rattle.origin_model.specs.order.Order.{order}
use Rattle.origin_model.specs.order.Printed.{shown}
use Rattle.origin_model.specs.edits.Edits.{Command, Put, Cut, Add, DropSection, history_with, left_for, splice}
use Rattle.origin_model.specs.edits.Landing.{StandsAfter}
use Rattle.origin_model.specs.edits.Refusal.{added_ids, made_by, put_ids, section_shown}
use Rattle.origin_model.specs.edits.State.{State}
use Rattle.origin_model.specs.declared.edit_fault.EditFault.{EditFault}
use Rattle.origin_model.specs.declared.edit_fault.EditFault.TheVariants.{NoMemory}
use Rattle.origin_model.specs.declared.operations.Place.{Place}
use Rattle.origin_model.specs.declared.operations.Place.TheVariants.{Catalogue as catalogue, Section as within}

-- the state with operations after the accepted ones
abbrev pub with_ops : State → List Op → State
with_ops s ops = record s { held = record { history = history_with s.held.history ops; waiting = s.held.waiting } }

-- the operations stand after those that were accepted, in their order, and all else is as before
pub record Gains (old new : State) (ops : List Op) : Type 0 where
  pub accepted_are : accepted new.held.history ≡ accepted old.held.history ++ ops
  pub others : new ≡ with_ops old ops

-- an edit was made, of n operations
pub record IsMade (old new : State) (command : Command) (n : ℕ) : Type 0 where
  pub count : n ≡ length (made_by old command)
  pub gained : Gains old new (made_by old command)

-- an edit stopped on its way: the first ones of its operations stand, and not all
pub record StopsPartly (old new : State) (ops : List Op) : Type 0 where
  pub count : ℕ
  pub fewer : count < length ops
  pub gained : Gains old new (take count ops)

-- what an edit leaves that was not made whole
abbrev pub LeavesUnmade : State → State → Command → EditFault → Type 0
LeavesUnmade old new command NoMemory = StopsPartly old new (made_by old command)
LeavesUnmade old new command _ = new ≡ old

-- what a place shows had n members from `at` on, which gave way to new ones; every other place shows what it showed
pub record IsSpliced (p : Place) (old new : State) (at n : ℕ) (ids : List Identifier) : Type 0 where
  pub here : shown p new.held.history ≡ splice (shown p old.held.history) at n ids
  pub elsewhere : (q : Place) → q ≢ p → shown q new.held.history ≡ shown q old.held.history

-- new elements came to what a place shows, at the position `at`; among all of its elements they stand directly after
-- their left origin, in their order
pub record IsInserted (p : Place) (old new : State) (at : ℕ) (ids : List Identifier) : Type 0 where
  pub splices : IsSpliced p old new at 0 ids
  pub behind : StandsAfter (left_for p old.held.history at) ids (order p old.held.history) (order p new.held.history)

-- n elements went from what a place shows, from the position `at` on; no place has its elements in another order
pub record IsErased (p : Place) (old new : State) (at n : ℕ) : Type 0 where
  pub splices : IsSpliced p old new at n []
  pub orders : (q : Place) → order q new.held.history ≡ order q old.held.history

-- the section that is shown at that position
abbrev pub OfSection : State → ℕ → (Identifier → Type 0) → Type 0
OfSection s k P = (x : Identifier) × (section_shown s k ≡ Some x) × P x

-- where an edit lands: the new elements stand where they were asked for in what is shown, and directly after their
-- left origin among all, in their order; what is taken away is what was asked for; other places show what they showed
abbrev pub Lands : (old new : State) → Command → Type 0
Lands old new (Put k at text) = OfSection old k (λ x. IsInserted (within x) old new at (put_ids old text))
Lands old new (Cut k at n) = OfSection old k (λ x. IsErased (within x) old new at n)
Lands old new (Add at title) = IsInserted catalogue old new at (added_ids old)
Lands old new (DropSection k) = IsErased catalogue old new k 1
