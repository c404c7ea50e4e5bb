-- The texts of free sections, of which one is to be alike.
use Rattle.std.specs.Prelude.{◌≡◌, ◌≢◌, ℕ, ◌<◌, false, None, Some, List, [], length, slice_get}
use Rattle.section_plan.specs.Likeness.{alike}
use Rattle.section_plan.specs.Hashes.{AreReversed}
use Rattle.section_plan.specs.Matching.{KeepsPairs, part_of, section_of, text_at_place}
use Rattle.section_plan.specs.declared.alike.Scalars.{Scalars}
use Rattle.section_plan.specs.declared.pairs.Pairs.{Pairs}
use Rattle.section_plan.specs.declared.part.Part.{Part}

-- the section of each text is there
abbrev pub AreThere : (sections : ℕ) → List Scalars → Type 0
AreThere sections texts = (k : ℕ) (s : Scalars) → slice_get texts k ≡ Some s → s.place < sections

-- one of the texts is that of a section
abbrev pub HasText : (sections : List Part) → List Scalars → (section : ℕ) → Type 0
HasText sections texts i =
    (k : ℕ) × (s : Scalars) × (slice_get texts k ≡ Some s) × (s.place ≡ i) × (s.list.items ≡ text_at_place sections i)

-- the texts are those of sections, and among them is that of each free section in front of a place, unless it is empty
pub record HasSectionTexts (p : Pairs) (sections : List Part) (place : ℕ) (texts : List Scalars) : Type 0 where
  pub within : AreThere (length sections) texts
  pub reversed : AreReversed texts
  pub all : (i : ℕ) → i < place → part_of p i ≡ None → text_at_place sections i ≢ [] → HasText sections texts i

-- none of the first texts is that of a free section and alike
abbrev pub NoneAmong : Pairs → List Scalars → (first : ℕ) → (text : List ℕ) → Type 0
NoneAmong p texts first text = (k : ℕ) (s : Scalars) → k < first → slice_get texts k ≡ Some s → part_of p s.place ≡ None
    → alike s.list.items text ≡ false

-- the part has a section, or none of the texts is that of a free section and alike
abbrev pub IsServed : Pairs → List Scalars → (part : ℕ) → (text : List ℕ) → Type 0
IsServed p texts part text = section_of p part ≡ None → NoneAmong p texts (length texts) text

-- so has each part in front of a place, while pairs stay
pub record AreServed (start now : Pairs) (texts : List Scalars) (parts : List Part) (place : ℕ) : Type 0 where
  pub kept : KeepsPairs start now
  pub served : (j : ℕ) → j < place → IsServed now texts j (text_at_place parts j)
