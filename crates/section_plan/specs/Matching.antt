-- Which sections and which parts of a draft belong together. Sections and parts are counted from 0.
use Rattle.std.specs.Prelude.{◌≡◌, ◌≢◌, ◌⊎◌, ◌↔◌, ℕ, ◌<◌, Bool, true, false, not, Option, Some, None, List, [], ◌∷◌, length, slice_index_or}
use Rattle.std.specs.Str.{chars}
use Rattle.section_plan.specs.Likeness.{alike}
use Rattle.section_plan.specs.declared.pairs.Pairs.{Pairs}
use Rattle.section_plan.specs.declared.part.Part.{Part}
use Rattle.section_plan.specs.declared.keys.Key.{Key}
use Rattle.section_plan.specs.declared.keys.Key.TheVariants.{Text, Title}

-- the section of a part, and the part of a section: None where it has none
abbrev pub section_of : Pairs → ℕ → Option ℕ
section_of p part = slice_index_or p.of_part.items part None

-- the part of a section, where it has one
abbrev pub part_of : Pairs → ℕ → Option ℕ
part_of p section = slice_index_or p.of_section.items section None

-- so many sections and parts, each in one pair at most
pub record IsMatching (sections parts : ℕ) (p : Pairs) : Type 0 where
  pub sections_are : length p.of_section.items ≡ sections
  pub parts_are : length p.of_part.items ≡ parts
  pub inverse : (i j : ℕ) → (section_of p j ≡ Some i) ↔ (part_of p i ≡ Some j)

-- each pair stays, and what is matched is so still
pub record KeepsPairs (old new : Pairs) : Type 0 where
  pub matching : (sections parts : ℕ) → IsMatching sections parts old → IsMatching sections parts new
  pub stay : (i j : ℕ) → section_of old j ≡ Some i → section_of new j ≡ Some i

-- one pair came, and no other one
abbrev pub AddsPair : (old new : Pairs) → (section part : ℕ) → Type 0
AddsPair old new section part = (i j : ℕ) → section_of new j ≡ Some i → (section_of old j ≡ Some i) ⊎ ((i ≡ section) × (j ≡ part))

-- the bytes of the key
abbrev pub key_in : Key → Part → List ℕ
key_in Text part = part.text.now
key_in Title part = part.title.now

-- the list has no member
abbrev pub is_nothing : List ℕ → Bool
is_nothing [] = true
is_nothing (b ∷ bs) = false

-- a part is matched by its text only where that is not empty
abbrev pub is_keyed : Key → Part → Bool
is_keyed Text part = not (is_nothing part.text.now)
is_keyed Title part = true

-- what stands past the end of a list of parts: nothing
abbrev pub no_part : Part
no_part = record { title = record { ref_ptr = (0, 0); now = [] }; text = record { ref_ptr = (0, 0); now = [] } }

-- the part at a place, and its key
abbrev pub part_at : List Part → ℕ → Part
part_at ps i = slice_index_or ps i no_part

-- the key of the part at a place
abbrev pub key_at : Key → List Part → ℕ → List ℕ
key_at key ps i = key_in key (part_at ps i)

-- the pairs that came are of sections and parts that have the same key
abbrev pub AddsSame : (old new : Pairs) → (sections parts : List Part) → Key → Type 0
AddsSame old new sections parts key = (i j : ℕ) → section_of new j ≡ Some i
    → (section_of old j ≡ Some i) ⊎ (key_at key sections i ≡ key_at key parts j)

-- no section and no part that have the same key are left without a pair
abbrev pub NoneIsLeft : Pairs → (sections parts : List Part) → Key → Type 0
NoneIsLeft p sections parts key = (i j : ℕ) → i < length sections → j < length parts → part_of p i ≡ None → section_of p j ≡ None
    → is_keyed key (part_at parts j) ≡ true → key_at key sections i ≢ key_at key parts j

-- the scalars of the text at a place
abbrev pub text_at_place : List Part → ℕ → List ℕ
text_at_place ps i = chars (key_at Text ps i)

-- no section and no part that are left without a pair have texts that are alike
abbrev pub NoPairIsAlike : Pairs → (sections parts : List Part) → Type 0
NoPairIsAlike p sections parts = (i j : ℕ) → i < length sections → j < length parts → part_of p i ≡ None → section_of p j ≡ None
    → alike (text_at_place sections i) (text_at_place parts j) ≡ false

-- pairs came, of sections and parts that have the same key, and none went
pub record GainsPairs (key : Key) (sections parts : List Part) (old new : Pairs) : Type 0 where
  pub kept : KeepsPairs old new
  pub same : AddsSame old new sections parts key

-- a section has a part with its text; a part has a section with its text
abbrev pub HasPartWithText : Pairs → (sections parts : List Part) → ℕ → Type 0
HasPartWithText p sections parts i = (j : ℕ) × (part_of p i ≡ Some j) × (key_at Text parts j ≡ key_at Text sections i)

-- the section of a part has the text of it
abbrev pub HadText : Pairs → (sections parts : List Part) → ℕ → Type 0
HadText p sections parts j = (i : ℕ) × (section_of p j ≡ Some i) × (key_at Text sections i ≡ key_at Text parts j)

-- where a section and a part have the same text, and it is not empty, the section keeps it, or the part has it from another
-- section: so as many keep a text as there can be
abbrev pub TextsAreMatched : Pairs → (sections parts : List Part) → Type 0
TextsAreMatched p sections parts = (i j : ℕ) → i < length sections → j < length parts → key_at Text sections i ≡ key_at Text parts j
    → is_keyed Text (part_at parts j) ≡ true
    → HasPartWithText p sections parts i ⊎ HadText p sections parts j
