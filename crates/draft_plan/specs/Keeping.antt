-- What a revision keeps of the sections of a manuscript. Their headings and texts are compared as they are printed.
use Rattle.std.specs.Prelude.{◌≡◌, ◌≢◌, ◌≤◌, ◌⊎◌, nat_eq, false, Bool, ◌&&◌, List, [], filter, length}
use Rattle.std.specs.List.{Contains, list_any}
use Rattle.std.specs.Str.{chars}
use Rattle.fugue_ids.specs.Identifiers.{Identifier, id_eq}
use Rattle.fugue_ids.specs.declared.op.Op.{Op}
use Rattle.catalogue_notes.specs.Arranged.{arranged}
use Rattle.section_plan.specs.Likeness.{alike}
use Rattle.draft_plan.specs.Plain.{arranged_part}
use Rattle.draft_plan.specs.Revision.{HasOneMore, moves_of}

-- a section is arranged before and after
abbrev pub SectionStays : (old new : List Op) → Identifier → Type 0
SectionStays old new s = Contains (arranged old) s × Contains (arranged new) s

-- it is arranged before alone, or after alone
abbrev pub IsDropped : (old new : List Op) → Identifier → Type 0
IsDropped old new s = Contains (arranged old) s × (Contains (arranged new) s → ⊥)

-- the section is arranged in the new history, and was not in the old one
abbrev pub IsAddedBy : (old new : List Op) → Identifier → Type 0
IsAddedBy old new s = Contains (arranged new) s × (Contains (arranged old) s → ⊥)

-- a section stays with its text
abbrev pub KeepsText : (old new : List Op) → Identifier → Type 0
KeepsText old new s = SectionStays old new s × ((arranged_part old s).text ≡ (arranged_part new s).text)

-- where one section had a text, and one has it now, and it is not empty, the one or the other stays with it. So as many
-- stay with a text as had it, or as have it, whichever are fewer
abbrev pub TextsAreKept : (old new : List Op) → Type 0
TextsAreKept old new = (s t : Identifier) → Contains (arranged old) s → Contains (arranged new) t
    → (arranged_part old s).text ≡ (arranged_part new t).text → (arranged_part new t).text ≢ []
    → KeepsText old new s ⊎ KeepsText old new t

-- no dropped and no added section have the same heading
abbrev pub NoneIsLost : (old new : List Op) → Type 0
NoneIsLost old new = (s t : Identifier) → IsDropped old new s → IsAddedBy old new t
    → (arranged_part old s).title ≢ (arranged_part new t).title

-- no dropped and no added section have texts that are alike, as lists of scalars
abbrev pub NoneIsAlike : (old new : List Op) → Type 0
NoneIsAlike old new = (s t : Identifier) → IsDropped old new s → IsAddedBy old new t
    → alike (chars (arranged_part old s).text) (chars (arranged_part new t).text) ≡ false

-- the section is one of these
abbrev pub is_one_of : List Identifier → Identifier → Bool
is_one_of sections s = list_any (id_eq s) sections

-- a section has as many moves as before
abbrev pub has_no_move : (old new : List Op) → Identifier → Bool
has_no_move old new s = nat_eq (length (moves_of new s)) (length (moves_of old s))

-- it stays, and was not moved
abbrev pub stays_unmoved : (old new : List Op) → Identifier → Bool
stays_unmoved old new s = (is_one_of (arranged old) s && is_one_of (arranged new) s) && has_no_move old new s

-- the sections that are chosen stand in one order before and after
abbrev pub InOneOrder : (old new : List Op) → (chosen : Identifier → Bool) → Type 0
InOneOrder old new chosen = filter chosen (arranged old) ≡ filter chosen (arranged new)

-- only what moved is moved: a section that stays has one new move at most. Those that stay and are not moved stand in one
-- order before and after, and of no choice of sections that do there are more
pub record MovesFew (old new : List Op) : Type 0 where
  pub once : (s : Identifier) → SectionStays old new s → HasOneMore (moves_of old s) (moves_of new s)
  pub order : InOneOrder old new (stays_unmoved old new)
  pub most : (chosen : Identifier → Bool) → InOneOrder old new chosen
      → length (filter chosen (arranged new)) ≤ length (filter (stays_unmoved old new) (arranged new))

-- what a revision keeps
pub record KeepsSections (old new : List Op) : Type 0 where
  pub texts : TextsAreKept old new
  pub headings : NoneIsLost old new
  pub alike : NoneIsAlike old new
  pub moves : MovesFew old new
