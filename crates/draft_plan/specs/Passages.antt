-- Passages of a section, from one element that it shows to another one, and what a revision leaves of them.
use Rattle.std.specs.Prelude.{◌≡◌, ◌⊎◌, ℕ, ◌+◌, ◌-◌, ◌<◌, ◌≤◌, All, List, Some, drop, slice_get, take}
use Rattle.std.specs.List.{Contains}
use Rattle.fugue_ids.specs.Identifiers.{Identifier}
use Rattle.fugue_ids.specs.declared.op.Op.{Op}
use Rattle.origin_model.specs.declared.operations.Place.TheVariants.{Section as within}
use Rattle.origin_model.specs.edits.State.{State}
use Rattle.origin_model.specs.operations.Verdict.{Lawful}
use Rattle.origin_model.specs.order.Printed.{shown, text}
use Rattle.margin_notes.specs.Margins.{margin_span}
use Rattle.text_diff.specs.Kept.{AreAtSomeEnds}
use Rattle.text_diff.specs.Widened.{whole_start}
use Rattle.text_diff.specs.declared.hunk.Hunk.{Hunk}
use Rattle.draft_plan.specs.Revision.{KeepsSection}

-- the elements are what a section shows from one of them to another one
pub record IsShownPassage (history : List Op) (section first last : Identifier) (elements : List Identifier) : Type 0 where
  pub from : ℕ
  pub to : ℕ
  pub order : from ≤ to
  pub begins : slice_get (shown (within section) history) from ≡ Some first
  pub ends : slice_get (shown (within section) history) to ≡ Some last
  pub all : elements ≡ take (to + 1 - from) (drop from (shown (within section) history))

-- positions from one to another one are those of so many that begin at a third one
abbrev pub AreAmong : (at len from to : ℕ) → Type 0
AreAmong at len from to = (at ≤ from) × (to < at + len)

-- both are shown
abbrev pub AreShown : (history : List Op) → (section first last : Identifier) → Type 0
AreShown history section first last =
    Contains (shown (within section) history) first × Contains (shown (within section) history) last

-- no hunk touches the positions from one to another one: each ends in front of them, or begins after them
abbrev pub LieUntouched : List Hunk → (from to : ℕ) → Type 0
LieUntouched hs from to = All (λ h. (h.old_at + h.old_len ≤ from) ⊎ (to < h.old_at)) hs

-- What is left of a passage of a section that stays. Where its first and its last element stand in lines that stay, both
-- stay; where both stand in one such line, or the section keeps its text, or no hunk touches it, all of it stays. So it does
-- where it stands in the common front or in the common end of a stretch between lines that stay, as far as whole words allow.
pub record PassageStays (old new : State) (section : Identifier) (kept : KeepsSection old new section) (first last : Identifier)
    (elements : List Identifier) (was : IsShownPassage old.held.history section first last elements) : Type 0 where
  pub ends : (other : text old.held.history section ≡ text new.held.history section → ⊥)
      → let stay = (kept.elements.lines other).lines in
      All (λ k. All (λ l. AreAmong k.old_at k.len was.from was.from → AreAmong l.old_at l.len was.to was.to
      → AreShown new.held.history section first last) stay) stay
  pub line : (other : text old.held.history section ≡ text new.held.history section → ⊥)
      → All (λ l. AreAmong l.old_at l.len was.from was.to → IsShownPassage new.held.history section first last elements)
      (kept.elements.lines other).lines
  pub untouched : LieUntouched kept.elements.hunks was.from was.to → IsShownPassage new.held.history section first last elements
  pub at_ends : (other : text old.held.history section ≡ text new.held.history section → ⊥)
      → AreAtSomeEnds (text old.held.history section) (text new.held.history section) whole_start whole_start
      (kept.elements.lines other).lines kept.elements.hunks (kept.elements.lines other).gaps was.from was.to
      → IsShownPassage new.held.history section first last elements
  pub same_text : text new.held.history section ≡ text old.held.history section
      → IsShownPassage new.held.history section first last elements

-- so it is with each passage of each section that a revision keeps: a comment on it keeps the letters that it names
abbrev pub PassagesStay : Type 0
PassagesStay = (old new : State) (section first last : Identifier) (elements : List Identifier) (kept : KeepsSection old new section)
    → Lawful old.held.history
    → (was : IsShownPassage old.held.history section first last elements) → PassageStays old new section kept first last elements was

-- The span of a comment whose anchors are the first and the last element of a passage: it begins where the passage does, and
-- ends after it. So it cuts the passage out of what is shown.
pub record IsSpanned (history : List Op) (section first last : Identifier) (elements : List Identifier)
    (p : IsShownPassage history section first last elements) : Type 0 where
  pub begins : (margin_span history section first last).from ≡ p.from
  pub ends : (margin_span history section first last).to ≡ p.to + 1
  pub reads : take ((margin_span history section first last).to - (margin_span history section first last).from)
      (drop (margin_span history section first last).from (shown (within section) history)) ≡ elements

-- so it is with each passage: where it stays, what is printed of a comment on it tells where it stands
abbrev pub PassagesAreSpans : Type 0
PassagesAreSpans = (history : List Op) (section first last : Identifier) (elements : List Identifier) → Lawful history
    → (p : IsShownPassage history section first last elements) → IsSpanned history section first last elements p
