-- A note that a replica makes: which it is, when there is none, and what it leaves.
use Rattle.std.specs.Prelude.{◌≡◌, ◌≢◌, ◌↔◌, ℕ, true, Option, Some, Result, Err, List, [], ◌∷◌, All}
use Rattle.fugue_ids.specs.Identifiers.{Identifier}
use Rattle.fugue_ids.specs.declared.op.Op.{Op}
use Rattle.origin_model.specs.operations.History.{holds}
use Rattle.origin_model.specs.order.Order.{order}
use Rattle.origin_model.specs.order.Printed.{shown}
use Rattle.origin_model.specs.edits.Edits.{noted}
use Rattle.origin_model.specs.edits.Effect.{Gains}
use Rattle.origin_model.specs.edits.Refusal.{refused_elements}
use Rattle.origin_model.specs.edits.State.{State}
use Rattle.origin_model.specs.declared.edit_fault.EditFault.{EditFault}
use Rattle.origin_model.specs.declared.edit_fault.EditFault.TheVariants.{NoMemory}
use Rattle.origin_model.specs.declared.operations.Place.{Place}

-- the note that the replica makes
abbrev pub note_by : State → (named : List Identifier) → (code : ℕ) → (body : List ℕ) → Op
note_by s named code body = noted s.held.history s.held.waiting s.number named code body

-- each of the identifiers is held
abbrev pub AreHeld : List Op → List Identifier → Type 0
AreHeld history named = All (λ i. holds history i ≡ true) named

-- why a note is not made: its counter would pass the greatest number there is, or the operations would be too many
abbrev pub note_refusal : State → Option EditFault
note_refusal s = refused_elements s 1

-- each refusal of a note comes exactly where its cause is the first
abbrev pub RefusesNote : State → Result ℕ EditFault → Type 0
RefusesNote s result = (fault : EditFault) → fault ≢ NoMemory → (result ≡ Err fault) ↔ (note_refusal s ≡ Some fault)

-- a note was made, and nothing else
pub record IsNoted (old new : State) (named : List Identifier) (code : ℕ) (body : List ℕ) (n : ℕ) : Type 0 where
  pub count : n ≡ 1
  pub gained : Gains old new (note_by old named code body ∷ [])

-- each place has its elements in the order in which it had them, and shows what it showed
pub record ShowsAsBefore (old new : State) : Type 0 where
  pub orders : (p : Place) → order p new.held.history ≡ order p old.held.history
  pub lists : (p : Place) → shown p new.held.history ≡ shown p old.held.history
