-- What operations write, delete and add, and that none of those of a revision is needless.
use Rattle.std.specs.Prelude.{◌≡◌, ◌⊎◌, ℕ, All, List, Option}
use Rattle.std.specs.List.{Contains}
use Rattle.fugue_ids.specs.Identifiers.{Identifier}
use Rattle.fugue_ids.specs.declared.op.Op.{Op}
use Rattle.fugue_ids.specs.declared.op.Op.TheVariants.{Delete, Note, Section, Text}
use Rattle.origin_model.specs.declared.operations.Place.TheVariants.{Catalogue as catalogue, Section as within}
use Rattle.origin_model.specs.edits.Effect.{Gains}
use Rattle.origin_model.specs.edits.State.{State}
use Rattle.origin_model.specs.order.Printed.{shown}
use Rattle.catalogue_notes.specs.Arranged.{arranged}

-- the operation writes only in sections of this kind, deletes only what is of that kind, and adds a section only where one
-- may be added
abbrev pub Touches : (Writes Deletes : Identifier → Type 0) → (Adds : Type 0) → Op → Type 0
Touches Writes Deletes Adds (Section id left right title) = Adds
Touches Writes Deletes Adds (Text id section left right ch) = Writes section
Touches Writes Deletes Adds (Delete x) = Deletes x
Touches Writes Deletes Adds (Note id named code body) = Unit {0}

-- operations of this kind were made, and no others
abbrev pub MakesOnly : (Op → Type 0) → (old new : State) → Type 0
MakesOnly Kind old new = (ops : List Op) × Gains old new ops × All Kind ops

-- in the text of a section: nothing is deleted there but these elements
abbrev pub InText : (section : Identifier) → (elements : List Identifier) → Op → Type 0
InText section elements = Touches (λ s. s ≡ section) (Contains elements) ⊥

-- in the texts of sections that are arranged: nothing is deleted there but what they show
abbrev pub IsElement : (history : List Op) → Identifier → Type 0
IsElement history x = (s : Identifier) × Contains (arranged history) s × Contains (shown (within s) history) x

-- the operation touches elements of arranged sections alone
abbrev pub InTexts : (history : List Op) → Op → Type 0
InTexts history = Touches (Contains (arranged history)) (IsElement history) ⊥

-- a section is moved or retitled
abbrev pub InHeading : Op → Type 0
InHeading = Touches (λ s. ⊥) (λ x. ⊥) ⊥

-- or one is added
abbrev pub InShape : Op → Type 0
InShape = Touches (λ s. ⊥) (λ x. ⊥) (Unit {0})

-- or one that is shown is dropped
abbrev pub InSections : (history : List Op) → Op → Type 0
InSections history = Touches (λ s. ⊥) (Contains (shown catalogue history)) (Unit {0})

-- an element that the text of a section showed that stays
abbrev pub IsElementKept : (old new : List Op) → Identifier → Type 0
IsElementKept old new x = (s : Identifier) × Contains (arranged old) s × Contains (arranged new) s × Contains (shown (within s) old) x

-- A section of the manuscript, or an element of the text of one that stays: so a section that is dropped is deleted, and
-- none of its letters is.
abbrev pub MayBeDeleted : (old new : List Op) → Identifier → Type 0
MayBeDeleted old new x = Contains (arranged old) x ⊎ IsElementKept old new x

-- The operations were made, and each is needed: what a Delete names was shown, and is no letter of a section that is
-- dropped, and each Section and each Text that was made is shown after.
pub record NoneIsNeedless (old new : State) : Type 0 where
  pub made : List Op
  pub gained : Gains old new made
  pub deletes : (x : Identifier) → Contains made (Delete x) → MayBeDeleted old.held.history new.held.history x
  pub sections : (id : Identifier) (left right : Option Identifier) (title : List ℕ) → Contains made (Section id left right title)
      → Contains (arranged new.held.history) id
  pub texts : (id section : Identifier) (left right : Option Identifier) (ch : ℕ) → Contains made (Text id section left right ch)
      → Contains (arranged new.held.history) section × Contains (shown (within section) new.held.history) id

-- what a revision may do
abbrev pub InRevision : (old new : List Op) → Op → Type 0
InRevision old new = Touches (Contains (arranged new)) (MayBeDeleted old new) (Unit {0})
