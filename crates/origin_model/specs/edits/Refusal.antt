-- Which edits a replica refuses, and the operations of the others.
use Rattle.std.specs.Prelude.{◌≡◌, ◌≢◌, ◌↔◌, ℕ, ◌+◌, ◌-◌, ◌^◌, ◌&&◌, nat_lt, if◌then◌else◌, Option, Some, None, Result, Err, List, [], ◌∷◌}
use Rattle.std.specs.Prelude.{length, slice_get}
use Rattle.fugue_ids.specs.Identifiers.{Identifier}
use Rattle.fugue_ids.specs.declared.op.Op.{Op}
use Rattle.origin_model.specs.order.Printed.{shown}
use Rattle.origin_model.specs.edits.Edits.{Command, Put, Cut, Add, DropSection, id_at, made, next_counter, typed_ids}
use Rattle.origin_model.specs.edits.State.{State}
use Rattle.origin_model.specs.declared.edit_fault.EditFault.{EditFault}
use Rattle.origin_model.specs.declared.edit_fault.EditFault.TheVariants.{NoSection, OutOfRange, IdsSpent, TooMany, NoMemory}
use Rattle.origin_model.specs.declared.operations.Place.{Place}
use Rattle.origin_model.specs.declared.operations.Place.TheVariants.{Catalogue as catalogue, Section as within}

-- the section after k others among those that are shown
abbrev pub section_shown : State → ℕ → Option Identifier
section_shown s k = slice_get (shown catalogue s.held.history) k

-- how many elements a place shows
abbrev pub shown_count : State → Place → ℕ
shown_count s p = length (shown p s.held.history)

-- how many operations are accepted or wait
abbrev pub held_count : State → ℕ
held_count s = length s.held.history + length s.held.waiting

-- the counter of the next element
abbrev pub next_of_own : State → ℕ
next_of_own s = next_counter s.number s.held.history s.held.waiting

-- the operations of an edit
abbrev pub made_by : State → Command → List Op
made_by s command = made s.number s.held.history s.held.waiting command

-- the identifiers of the elements of a put
abbrev pub put_ids : State → List ℕ → List Identifier
put_ids s new = typed_ids s.number (next_of_own s) new

-- the identifier of the section of an add
abbrev pub added_ids : State → List Identifier
added_ids s = id_at s.number (next_of_own s) ∷ []

-- why n operations more do not come: too many would be accepted or wait. It carries how many do.
abbrev pub refused_ops : State → ℕ → Option EditFault
refused_ops s n = if nat_lt s.most (held_count s + n) then Some (TooMany (held_count s)) else None

-- why n elements more do not come: their counters would pass the greatest number there is, or the operations would be
-- too many. The first carries the greatest counter so far, or 0.
abbrev pub refused_elements : State → ℕ → Option EditFault
refused_elements s n = if nat_lt 0 n && nat_lt (2 ^ 32) (next_of_own s + n) then Some (IdsSpent (next_of_own s - 1)) else refused_ops s n

-- where there is such a section, what is refused in it
abbrev pub in_section : Option Identifier → (Identifier → Option EditFault) → Option EditFault
in_section None cause = Some NoSection
in_section (Some x) cause = cause x

-- where the position is within so many, what is refused besides
abbrev pub in_range : (position count : ℕ) → Option EditFault → Option EditFault
in_range position count cause = if nat_lt count position then Some OutOfRange else cause

-- why an edit is refused, by the first cause that there is
abbrev pub refusal_message : State → Command → Option EditFault
refusal_message s (Put k at new) =
    in_section (section_shown s k) (λ x. in_range at (shown_count s (within x)) (refused_elements s (length new)))
refusal_message s (Cut k at n) = in_section (section_shown s k) (λ x. in_range (at + n) (shown_count s (within x)) (refused_ops s n))
refusal_message s (Add at title) = in_range at (shown_count s catalogue) (refused_elements s 1)
refusal_message s (DropSection k) = in_section (section_shown s k) (λ x. refused_ops s 1)

-- each refusal comes exactly where its cause is the first
abbrev pub RefusesExactly : State → Command → Result ℕ EditFault → Type 0
RefusesExactly s command result = (fault : EditFault) → fault ≢ NoMemory → (result ≡ Err fault) ↔ (refusal_message s command ≡ Some fault)
