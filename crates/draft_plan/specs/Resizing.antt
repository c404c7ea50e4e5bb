-- Sections dropped and added, until there is one for each part of a draft.
use Rattle.std.specs.Prelude.{◌≡◌, ◌≢◌, ◌⊎◌, ◌↔◌, ℕ, ◌+◌, ◌≤◌, ◌<◌, false, Option, Some, None, IsSome, List, [], ◌∷◌, ◌++◌, length}
use Rattle.std.specs.Prelude.{slice_get}
use Rattle.std.specs.List.{Contains}
use Rattle.std.specs.Str.{encode_utf8_all}
use Rattle.fugue_ids.specs.Identifiers.{Identifier}
use Rattle.origin_model.specs.declared.operations.Place.TheVariants.{Catalogue as catalogue}
use Rattle.origin_model.specs.edits.State.{State}
use Rattle.origin_model.specs.operations.History.{holds}
use Rattle.origin_model.specs.order.Printed.{shown}
use Rattle.catalogue_notes.specs.Arranged.{heading}
use Rattle.section_plan.specs.Matching.{part_of, section_of}
use Rattle.section_plan.specs.declared.pairs.Pairs.{Pairs}
use Rattle.draft_plan.specs.Drafts.{Part}
use Rattle.draft_plan.specs.Shaping.{AreTitled, IsShaped, KeepsPlaces}

-- no member stands at two places
abbrev pub AreDistinct : List Identifier → Type 0
AreDistinct xs = (j k : ℕ) (s : Identifier) → slice_get xs j ≡ Some s → slice_get xs k ≡ Some s → j ≡ k

-- one list has the members of another one, but for s
abbrev pub IsWithout : (s : Identifier) → (xs ys : List Identifier) → Type 0
IsWithout s xs ys = (t : Identifier) → Contains ys t ↔ (Contains xs t × t ≢ s)

-- of the sections in front of a place those that have a part are left, and those from there on
pub record AreLeft (sections : List Identifier) (pairs : Pairs) (place : ℕ) (left : List Identifier) : Type 0 where
  pub kept : (i : ℕ) (s : Identifier) → slice_get sections i ≡ Some s → (place ≤ i) ⊎ IsSome (part_of pairs i) → Contains left s
  pub only : (s : Identifier) → Contains left s → (i : ℕ) × (slice_get sections i ≡ Some s) × ((place ≤ i) ⊎ IsSome (part_of pairs i))

-- a section was added, which nothing had held: it has this number and this heading, and no other one came or went
pub record IsAdded (old new : State) (number : ℕ) (title : List ℕ) (section : Identifier) : Type 0 where
  pub shaped : IsShaped old new 1
  pub places : KeepsPlaces old.held.history new.held.history
  pub fresh : holds old.held.history section ≡ false
  pub there : slice_get (shown catalogue new.held.history) number ≡ Some section
  pub headed : encode_utf8_all (heading new.held.history section) ≡ title
  pub all : (t : Identifier) → Contains (shown catalogue new.held.history) t
      ↔ (Contains (shown catalogue old.held.history) t ⊎ (t ≡ section))

-- the number after that of a section, or the first number
pub record IsAfter (shown_now : List Identifier) (section : Option Identifier) (number : ℕ) : Type 0 where
  pub within : number ≤ length shown_now
  pub first : section ≡ None → number ≡ 0
  pub behind : (s : Identifier) → section ≡ Some s → (n : ℕ) × (slice_get shown_now n ≡ Some s) × (number ≡ n + 1)

-- a section with this title was added, directly after another one, or as the first one
pub record ComesAfter (old new : State) (anchor : Option Identifier) (title : List ℕ) (section : Identifier) : Type 0 where
  pub number : ℕ
  pub behind : IsAfter (shown catalogue old.held.history) anchor number
  pub added : IsAdded old new number title section

-- the sections of the parts in front of one: a part has the section that it is matched with, or one that was not held at
-- the start and stands under its title. What is shown besides are the sections of later parts
pub record AreTargetsTo (start now : State) (sections : List Identifier) (pairs : Pairs) (parts : List Part) (part : ℕ)
    (targets : List Identifier) : Type 0 where
  pub long : length targets ≡ part
  pub kept : (j i : ℕ) (s : Identifier) → j < part → section_of pairs j ≡ Some i → slice_get sections i ≡ Some s
      → slice_get targets j ≡ Some s
  pub fresh : (j : ℕ) (s : Identifier) → section_of pairs j ≡ None → slice_get targets j ≡ Some s → holds start.held.history s ≡ false
  pub there : (s : Identifier) → Contains targets s → Contains (shown catalogue now.held.history) s
  pub later : (j i : ℕ) (s : Identifier) → section_of pairs j ≡ Some i → slice_get sections i ≡ Some s
      → Contains (shown catalogue now.held.history) s
  pub only : (s : Identifier) → Contains (shown catalogue now.held.history) s
      → Contains targets s ⊎ ((j : ℕ) × (i : ℕ) × (part ≤ j) × (section_of pairs j ≡ Some i) × (slice_get sections i ≡ Some s))
  pub once : AreDistinct targets
  pub titled : AreTitled now.held.history pairs parts targets

-- these are the shown sections, each once, and each part has the section that it is matched with, or one that was not held
-- and stands under its title
pub record AreTargets (start now : State) (sections : List Identifier) (pairs : Pairs) (parts : List Part)
    (targets : List Identifier) : Type 0 where
  pub long : length targets ≡ length parts
  pub kept : (j i : ℕ) (s : Identifier) → section_of pairs j ≡ Some i → slice_get sections i ≡ Some s → slice_get targets j ≡ Some s
  pub fresh : (j : ℕ) (s : Identifier) → section_of pairs j ≡ None → slice_get targets j ≡ Some s → holds start.held.history s ≡ false
  pub shown_are : (s : Identifier) → Contains (shown catalogue now.held.history) s ↔ Contains targets s
  pub once : AreDistinct targets
  pub titled : AreTitled now.held.history pairs parts targets

-- the section of one part more came to these: that at a place, or, where there is none, one that was added with the title
-- after a section, or as the first one
pub record IsPartTaken (old new : State) (sections : List Identifier) (place : Option ℕ) (anchor : Option Identifier) (title : List ℕ)
    (before targets : List Identifier) : Type 0 where
  pub section : Identifier
  pub targets_are : targets ≡ before ++ section ∷ []
  pub kept : (i : ℕ) → place ≡ Some i → (slice_get sections i ≡ Some section) × (new ≡ old)
  pub came : place ≡ None → ComesAfter old new anchor title section
