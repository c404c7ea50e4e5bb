-- What two authors' drafts of one manuscript give together. Each history is newest first.
use Rattle.std.specs.Prelude.{◌≡◌, ◌⊎◌, ℕ, ◌+◌, ◌≤◌, All, Option, true, List, [], ◌∷◌, ◌++◌, Some, if◌then◌else◌, nat_eq, length}
use Rattle.std.specs.List.{Contains}
use Rattle.fugue_ids.specs.Identifiers.{Identifier}
use Rattle.fugue_ids.specs.Listed.{last_before}
use Rattle.fugue_ids.specs.declared.op.Op.{Op}
use Rattle.origin_model.specs.declared.operations.Place.{Place}
use Rattle.origin_model.specs.declared.operations.Place.TheVariants.{Section as within}
use Rattle.origin_model.specs.edits.Edits.{Put, left_for}
use Rattle.origin_model.specs.edits.Effect.{IsMade}
use Rattle.origin_model.specs.edits.Passages.{GoesForward}
use Rattle.origin_model.specs.edits.Refusal.{put_ids, section_shown}
use Rattle.origin_model.specs.edits.State.{State}
use Rattle.origin_model.specs.operations.History.{has_op, holds}
use Rattle.origin_model.specs.operations.Verdict.{Lawful}
use Rattle.origin_model.specs.order.Laws.{IsPartOf}
use Rattle.origin_model.specs.order.Order.{order}
use Rattle.origin_model.specs.order.Printed.{shown, text}
use Rattle.text_diff.specs.Hunks.{Transforms}
use Rattle.text_diff.specs.Merges.{TextChange, IsMerge}
use Rattle.text_diff.specs.Seams.{IsOfWords}
use Rattle.text_diff.specs.Words.{IsSeparate, IsWordOf, words}
use Rattle.text_diff.specs.declared.hunk.Hunk.{Hunk}
use Rattle.draft_plan.specs.Texts.{StayBetween}

-- the elements that come where a hunk begins at a position
abbrev pub comes_at : (history : List Op) (from : ℕ) (old new : List Identifier) (hunks : List Hunk)
    → StayBetween history from old new hunks → (i : ℕ)
    → List Identifier
comes_at history from old new [] stays i = []
comes_at history from old new (h ∷ hs) stays i =
    (if nat_eq h.old_at i then stays.0 else []) ++ comes_at history (h.old_at + h.old_len) old stays.1 hs stays.5 i

-- an element stands directly after another one, or it is the first
abbrev pub IsDirectlyAfter : Place → List Op → Option Identifier → Identifier → Type 0
IsDirectlyAfter p h left x =
    (front : List Identifier) × (back : List Identifier) × (order p h ≡ front ++ x ∷ back) × (last_before front ≡ left)

-- elements were put in one go: the first stands directly after what is in front, and each has the one before as left origin
abbrev pub IsPutInOneGo : Place → List Op → Option Identifier → List Identifier → Type 0
IsPutInOneGo p h left [] = Unit {0}
IsPutInOneGo p h left (x ∷ xs) = IsDirectlyAfter p h left x × GoesForward p h x xs

-- what an editor types at one place of a section is put in one go after the shown element in front of it
abbrev pub TypedInOneGo : Type 0
TypedInOneGo =
    (old new : State) (k at n : ℕ) (scalars : List ℕ) (section : Identifier) → Lawful old.held.history → section_shown old k ≡ Some section
    → at ≤ length (shown (within section) old.held.history) → IsMade old new (Put k at scalars) n
    → IsPutInOneGo (within section) new.held.history (left_for (within section) old.held.history at) (put_ids old scalars)

-- An author's draft of a section: by its hunks the old text becomes the new one, what stands between them stays, and what
-- comes in the place of each is put in one go after the element in front of it.
pub record IsAuthoredDraft (section : Identifier) (base own : List Op) : Type 0 where
  pub lawful : Lawful own
  pub part : IsPartOf base own
  pub hunks : List Hunk
  pub transforms : Transforms nat_eq (text base section) (text own section) hunks
  pub stays : StayBetween base 0 (shown (within section) base) (shown (within section) own) hunks
  pub put : (i : ℕ)
      → IsPutInOneGo (within section) own (left_for (within section) base i)
      (comes_at base 0 (shown (within section) base) (shown (within section) own) hunks stays i)

-- a history has all operations of two authors and no others, and no element is of both but those of the base
pub record ComeTogether (base a b whole : List Op) : Type 0 where
  pub lawful : Lawful whole
  pub first : IsPartOf a whole
  pub second : IsPartOf b whole
  pub no_more : (op : Op) → has_op whole op ≡ true → (has_op a op ≡ true) ⊎ (has_op b op ≡ true)
  pub apart : (x : Identifier) → holds a x ≡ true → holds b x ≡ true → holds base x ≡ true

-- what a draft changes in the text of the section
abbrev pub draft_change : (section : Identifier) (base own : List Op) → IsAuthoredDraft section base own → TextChange
draft_change section base own draft = record { new = text own section; hunks = draft.hunks }

-- where two authors' drafts of one section come together, its text is what both changes give
abbrev pub DraftsMerge : Type 0
DraftsMerge =
    (section : Identifier) (base a b whole : List Op) → Lawful base
    → (d : IsAuthoredDraft section base a) (e : IsAuthoredDraft section base b)
    → ComeTogether base a b whole
    → IsMerge (text base section) (draft_change section base a d) (draft_change section base b e) (text whole section)

-- in a draft whole words go and come, each hunk from a seam to a seam
abbrev pub GoesByWords : (section : Identifier) (base own : List Op) → IsAuthoredDraft section base own → Type 0
GoesByWords section base own draft = All (IsOfWords (text base section) (text own section)) draft.hunks × IsSeparate (text own section)

-- then each word of it is a word of the old text or of one of the new ones
abbrev pub NoThirdWord : Type 0
NoThirdWord =
    (section : Identifier) (base a b whole : List Op) → Lawful base
    → (d : IsAuthoredDraft section base a) (e : IsAuthoredDraft section base b)
    → ComeTogether base a b whole → IsSeparate (text base section) → GoesByWords section base a d → GoesByWords section base b e
    → (word : List ℕ) → Contains (words (text whole section)) word
    → IsWordOf (text base section ∷ (text a section ∷ (text b section ∷ []))) word
