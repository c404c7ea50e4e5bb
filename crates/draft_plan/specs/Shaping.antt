-- What adding, dropping and moving sections does to a replica, and what giving one a title and a text does.
use Rattle.std.specs.Prelude.{◌≡◌, ◌≢◌, ◌⊎◌, ℕ, ◌<◌, ◌≤◌, true, false, List, Result, Ok, Err, None, Some, length, slice_get, slice_index_or}
use Rattle.std.specs.List.{Contains}
use Rattle.std.specs.Str.{encode_utf8_all}
use Rattle.fugue_ids.specs.Identifiers.{Identifier}
use Rattle.fugue_ids.specs.declared.op.Op.{Op}
use Rattle.origin_model.specs.declared.operations.Place.TheVariants.{Catalogue as catalogue, Section as within}
use Rattle.origin_model.specs.edits.State.{State}
use Rattle.origin_model.specs.operations.History.{holds}
use Rattle.origin_model.specs.order.Laws.{IsPartOf}
use Rattle.origin_model.specs.order.Order.{order}
use Rattle.origin_model.specs.order.Printed.{shown, text}
use Rattle.catalogue_notes.specs.Arranged.{arranged, heading, position}
use Rattle.catalogue_notes.specs.Lift.{moves}
use Rattle.section_plan.specs.Matching.{section_of}
use Rattle.section_plan.specs.declared.pairs.Pairs.{Pairs}
use Rattle.draft_plan.specs.Drafts.{Part}
use Rattle.draft_plan.specs.Needed.{InHeading, InSections, InShape, InText, InTexts, MakesOnly}
use Rattle.draft_plan.specs.Plain.{arranged_part}
use Rattle.draft_plan.specs.Revision.{HasOneMore, KeepsSection, Makes, MakesNothing, StopsAtLimit, retitles_of}
use Rattle.draft_plan.specs.declared.fault.ReviseFault.{ReviseFault}

-- a section is as it was: its heading, its text with its elements, the hidden ones too, and its retitles
pub record SameSection (old new : List Op) (s : Identifier) : Type 0 where
  pub headed : heading new s ≡ heading old s
  pub reads : text new s ≡ text old s
  pub elements : shown (within s) new ≡ shown (within s) old
  pub ordered : order (within s) new ≡ order (within s) old
  pub retitled : retitles_of new s ≡ retitles_of old s

-- what was held is held, the sections are as they were, and no text shows anything else; what is shown was shown before,
-- or is new
pub record KeepsHeld (old new : List Op) : Type 0 where
  pub held : (s : Identifier) → holds old s ≡ true → holds new s ≡ true
  pub same : (s : Identifier) → holds old s ≡ true → SameSection old new s
  pub lists : (s : Identifier) → shown (within s) new ≡ shown (within s) old
  pub came : (s : Identifier) → Contains (shown catalogue new) s → Contains (shown catalogue old) s ⊎ (holds old s ≡ false)

-- nothing was moved: what was held is, and all sections have the moves and the positions that they had
pub record KeepsPlaces (old new : List Op) : Type 0 where
  pub part : IsPartOf old new
  pub moved : moves new ≡ moves old
  pub positions : (s : Identifier) → position new s ≡ position old s

-- n operations were made, which add, move or retitle sections, and left those that there were as they were, but for how
-- they are arranged
pub record IsShaped (old new : State) (n : ℕ) : Type 0 where
  pub makes : Makes old new n
  pub keeps : KeepsHeld old.held.history new.held.history
  pub touches : MakesOnly InShape old new

-- the same, and sections that were shown may be dropped too
pub record IsReshaped (old new : State) (n : ℕ) : Type 0 where
  pub makes : Makes old new n
  pub keeps : KeepsHeld old.held.history new.held.history
  pub touches : MakesOnly (InSections old.held.history) old new

-- how such work ends
abbrev pub Shapes : (old new : State) → Result ℕ ReviseFault → Type 0
Shapes old new (Ok n) = IsShaped old new n
Shapes old new (Err why) = StopsAtLimit old new why

-- sections were added, dropped and moved, or a limit stopped it
abbrev pub Reshapes : (old new : State) → Result ℕ ReviseFault → Type 0
Reshapes old new (Ok n) = IsReshaped old new n
Reshapes old new (Err why) = StopsAtLimit old new why

-- the sections of so many parts: a part has the section that it is matched with, or, where there is none, one that was not
-- held. Sections are counted as they were arranged
pub record AreSectionsOf (old : List Op) (pairs : Pairs) (parts : ℕ) (sections : List Identifier) : Type 0 where
  pub long : length sections ≡ parts
  pub kept : (j i : ℕ) (s : Identifier) → section_of pairs j ≡ Some i → slice_get (arranged old) i ≡ Some s → slice_get sections j ≡ Some s
  pub fresh : (j : ℕ) (s : Identifier) → section_of pairs j ≡ None → slice_get sections j ≡ Some s → holds old s ≡ false

-- the section of a part that was matched with none has the part's title as its heading
abbrev pub AreTitled : (now : List Op) → Pairs → List Part → (sections : List Identifier) → Type 0
AreTitled now pairs parts sections =
    (j : ℕ) (s : Identifier) (p : Part) → section_of pairs j ≡ None → slice_get sections j ≡ Some s → slice_get parts j ≡ Some p
    → encode_utf8_all (heading now s) ≡ p.title

-- what is arranged are the sections of these parts, and those that were added stand under their titles
pub record StandsAs (old new : List Op) (pairs : Pairs) (parts : List Part) : Type 0 where
  pub sections : AreSectionsOf old pairs (length parts) (arranged new)
  pub titled : AreTitled new pairs parts (arranged new)

-- the same sections are shown and arranged as before, none was moved, and all but this one are as they were
pub record ChangesOnly (old new : List Op) (s : Identifier) : Type 0 where
  pub catalogue_is : shown catalogue new ≡ shown catalogue old
  pub arranged_as : arranged new ≡ arranged old
  pub moved : moves new ≡ moves old
  pub others : (t : Identifier) → t ≢ s → SameSection old new t

-- n operations were made, after which a section has the title, by one retitle at most, and the text that it had: none where
-- it had the title
pub record IsHeadedBy (old new : State) (s : Identifier) (title : List ℕ) (n : ℕ) : Type 0 where
  pub makes : Makes old new n
  pub only : ChangesOnly old.held.history new.held.history s
  pub touches : MakesOnly InHeading old new
  pub headed : encode_utf8_all (heading new.held.history s) ≡ title
  pub retitled : HasOneMore (retitles_of old.held.history s) (retitles_of new.held.history s)
  pub reads : text new.held.history s ≡ text old.held.history s
  pub elements : shown (within s) new.held.history ≡ shown (within s) old.held.history
  pub ordered : order (within s) new.held.history ≡ order (within s) old.held.history
  pub nothing : encode_utf8_all (heading old.held.history s) ≡ title → (n ≡ 0) × (new ≡ old)

-- n operations were made, after which a section is a part: none where it was
pub record IsFilledIn (old new : State) (s : Identifier) (part : Part) (n : ℕ) : Type 0 where
  pub makes : Makes old new n
  pub only : ChangesOnly old.held.history new.held.history s
  pub touches : MakesOnly (InText s (shown (within s) old.held.history)) old new
  pub reads : arranged_part new.held.history s ≡ part
  pub keeps : KeepsSection old new s
  pub nothing : arranged_part old.held.history s ≡ part → (n ≡ 0) × (new ≡ old)

-- the section at a place is its part, or is as it was, since the place is still to come
abbrev pub IsAtPlace : (start now : State) → (parts : List Part) → (place k : ℕ) → Identifier → Type 0
IsAtPlace start now parts place k s =
    (k < place → (arranged_part now.held.history s ≡ slice_index_or parts k (arranged_part now.held.history s)) × KeepsSection start now s)
    × (place ≤ k → SameSection start.held.history now.held.history s)

-- n operations were made, after which the sections up to a place are their parts
pub record AreFilled (start now : State) (parts : List Part) (place n : ℕ) : Type 0 where
  pub makes : Makes start now n
  pub catalogue_is : shown catalogue now.held.history ≡ shown catalogue start.held.history
  pub arranged_as : arranged now.held.history ≡ arranged start.held.history
  pub touches : MakesOnly (InTexts start.held.history) start now
  pub moved : moves now.held.history ≡ moves start.held.history
  pub each : (k : ℕ) (s : Identifier) → slice_get (arranged start.held.history) k ≡ Some s → IsAtPlace start now parts place k s
  pub nothing : MakesNothing start now parts n
