-- What is made of the hunks of one text, up to the last one of them.
use Rattle.std.specs.Prelude.{◌≡◌, ℕ, ◌+◌, ◌≤◌, List, drop, length, take}
use Rattle.fugue_ids.specs.Identifiers.{Identifier}
use Rattle.origin_model.specs.declared.edit_fault.EditFault.{EditFault}
use Rattle.origin_model.specs.declared.edit_fault.EditFault.TheVariants.{NoSection, OutOfRange}
use Rattle.origin_model.specs.declared.operations.Place.TheVariants.{Section as within}
use Rattle.origin_model.specs.edits.Edits.{splice}
use Rattle.origin_model.specs.edits.Effect.{OfSection}
use Rattle.origin_model.specs.edits.State.{State}
use Rattle.origin_model.specs.order.Printed.{shown, text}
use Rattle.text_diff.specs.Hunks.{with_hunks}
use Rattle.text_diff.specs.declared.hunk.Hunk.{Hunk}
use Rattle.draft_plan.specs.Needed.{InText, MakesOnly}
use Rattle.draft_plan.specs.Texts.{AreUnknown, IsRevised, StayBetween, size}

-- the elements that a section shows
abbrev pub shown_elements : State → Identifier → List Identifier
shown_elements s section = shown (within section) s.held.history

-- there is such a section, and its text reaches to an end
abbrev pub IsWithinText : State → ℕ → (end : ℕ) → Type 0
IsWithinText s k end = OfSection s k (λ x. end ≤ length (text s.held.history x))

-- a hunk was made in a section: elements that are new to the history came in the place of those that it cuts
pub record IsHunkMade (old new : State) (k : ℕ) (section : Identifier) (hunk : Hunk) (scalars : List ℕ) (n : ℕ) : Type 0 where
  pub come : List Identifier
  pub as_many : length come ≡ hunk.new_len
  pub fresh : AreUnknown old.held.history come
  pub count : n ≡ hunk.old_len + hunk.new_len
  pub touches : MakesOnly (InText section (take hunk.old_len (drop hunk.old_at (shown_elements old section)))) old new
  pub shows : shown_elements new section ≡ splice (shown_elements old section) hunk.old_at hunk.old_len come
  pub revised : IsRevised old new k section
      (splice (text old.held.history section) hunk.old_at hunk.old_len (take hunk.new_len (drop hunk.new_at scalars))) n

-- hunks were made in a section: what stands between them stays, what comes is new to the history, and nothing is deleted
-- but what the section showed
pub record AreHunksMade (old new : State) (k : ℕ) (section : Identifier) (hunks : List Hunk) (scalars : List ℕ) (n : ℕ) : Type 0 where
  pub revised : IsRevised old new k section (with_hunks (text old.held.history section) scalars 0 hunks) n
  pub stays : StayBetween old.held.history 0 (shown_elements old section) (shown_elements new section) hunks
  pub touches : MakesOnly (InText section (shown_elements old section)) old new
  pub count : n ≡ size hunks

-- the edits were not asked for what is not there
abbrev pub IsLimit : EditFault → Type 0
IsLimit NoSection = ⊥
IsLimit OutOfRange = ⊥
IsLimit why = Unit {0}
