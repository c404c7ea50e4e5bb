-- Sections moved until they stand in the order of a draft's parts.
use Rattle.std.specs.Prelude.{◌≡◌, ◌≢◌, ◌⊎◌, ◌↔◌, ℕ, ◌<◌, ◌≤◌, true, false, Bool, Option, Some, IsSome, List, filter, insert, length}
use Rattle.std.specs.Prelude.{slice_get, slice_index, slice_index_or}
use Rattle.fugue_ids.specs.Identifiers.{Identifier}
use Rattle.fugue_ids.specs.declared.op.Op.{Op}
use Rattle.catalogue_notes.specs.Arranged.{arranged}
use Rattle.catalogue_notes.specs.Laws.{AddsOne}
use Rattle.catalogue_notes.specs.Lift.{moves}
use Rattle.catalogue_notes.specs.Making.{without_member}
use Rattle.section_plan.specs.Matching.{section_of}
use Rattle.section_plan.specs.Rises.{IsChosen, IsLongestRise, chosen_count, rise_value}
use Rattle.section_plan.specs.declared.pairs.Pairs.{Pairs}
use Rattle.draft_plan.specs.Keeping.{InOneOrder, has_no_move}
use Rattle.draft_plan.specs.Revision.{HasOneMore, moves_of}

-- a list has the members of another one, in this order of their numbers
pub record IsOrderOf (sections arranged : List Identifier) (order : List ℕ) : Type 0 where
  pub long : length order ≡ length arranged
  pub each : (k : ℕ) (s : Identifier) → slice_get arranged k ≡ Some s → slice_get sections (slice_index order k) ≡ Some s

-- a part has a place exactly where it is matched and stands there, in front of one
pub record ArePlacesTo (order : List ℕ) (pairs : Pairs) (place : ℕ) (places : List (Option ℕ)) : Type 0 where
  pub long : length places ≡ length order
  pub each : (part x : ℕ) → (rise_value places part ≡ Some x)
      ↔ ((x < place) × (slice_index order x ≡ part) × IsSome (section_of pairs part))

-- a part got a place, if it is one of them
pub record PutsPlace (old new : List (Option ℕ)) (part place : ℕ) : Type 0 where
  pub long : length new ≡ length old
  pub here : part < length old → rise_value new part ≡ Some place
  pub others : (q : ℕ) → q ≢ part → rise_value new q ≡ rise_value old q

-- the parts that stay are matched, and stand in a longest series of those that stand in order
pub record AreStaying (order : List ℕ) (pairs : Pairs) (stays : List Bool) : Type 0 where
  pub places : List (Option ℕ)
  pub places_are : ArePlacesTo order pairs (length order) places
  pub longest : IsLongestRise places stays

-- a section went from one place of the arrangement to another, by one move
pub record IsSectionMoved (old new : List Op) (section : Identifier) : Type 0 where
  pub from : ℕ
  pub to : ℕ
  pub stood : slice_get (arranged old) from ≡ Some section
  pub lands : arranged new ≡ insert (without_member (arranged old) from) to section
  pub adds : AddsOne section (moves old) (moves new)

-- nothing is moved, or the section of a part that doesn't stay
abbrev pub MovesPart : (old new : List Op) → (stays : List Bool) → (sections : List Identifier) → (part : ℕ) → Type 0
MovesPart old new stays sections part =
    ((moves new ≡ moves old) × (arranged new ≡ arranged old))
    ⊎ ((s : Identifier) × (slice_get sections part ≡ Some s) × (slice_index_or stays part false ≡ false) × IsSectionMoved old new s)

-- of the sections of parts, those in front of one were moved once at most, and those that stay and those from there on were
-- not; those that were not moved stand in their order
pub record MovesFewTo (start now : List Op) (stays : List Bool) (sections : List Identifier) (part : ℕ) : Type 0 where
  pub once : (s : Identifier) → HasOneMore (moves_of start s) (moves_of now s)
  pub ahead : (j : ℕ) (s : Identifier) → part ≤ j → slice_get sections j ≡ Some s → moves_of now s ≡ moves_of start s
  pub kept : (j : ℕ) (s : Identifier) → IsChosen stays j → slice_get sections j ≡ Some s → moves_of now s ≡ moves_of start s
  pub order : InOneOrder start now (has_no_move start now)

-- sections were moved once at most, and those of the parts that stay were not. Those that were not moved stand in their
-- order. No choice of sections of matched parts that stand in the order of the parts has more than stay
pub record ArrangesFew (old new : List Op) (pairs : Pairs) (sections : List Identifier) : Type 0 where
  pub stays : List Bool
  pub long : length stays ≡ length sections
  pub few : MovesFewTo old new stays sections (length sections)
  pub matched : (j : ℕ) → IsChosen stays j → IsSome (section_of pairs j)
  pub most : (chosen : Identifier → Bool)
      → ((j : ℕ) (s : Identifier) → slice_get sections j ≡ Some s → chosen s ≡ true → IsSome (section_of pairs j))
      → filter chosen (arranged old) ≡ filter chosen sections → length (filter chosen sections) ≤ chosen_count stays
