-- Pairs by a key, up to a part.
use Rattle.std.specs.Prelude.{◌≡◌, ◌⊎◌, ℕ, ◌<◌, true, Option, None, Some, IsSome, List, length}
use Rattle.std.specs.BTreeMap.{BTreeMap, get_by}
use Rattle.std.specs.Ordering.{nat_cmp}
use Rattle.std.specs.Cmp.Lexicographic.{slice_cmp}
use denote.Ref.{Bor}
use Rattle.section_plan.specs.declared.keys.Key.{Key}
use Rattle.section_plan.specs.declared.pairs.Pairs.{Pairs}
use Rattle.section_plan.specs.declared.part.Part.{Part}
use Rattle.section_plan.specs.Matching.{GainsPairs, is_keyed, key_at, key_in, part_at, part_of, section_of}

-- what a map has for a text
abbrev pub found_for : BTreeMap (Bor (List ℕ)) ℕ → List ℕ → Option ℕ
found_for m text = get_by (λ k. slice_cmp nat_cmp text k.now) m

-- the section is free, and has the key
pub record IsFreeWith (p : Pairs) (sections : List Part) (key : Key) (wanted : List ℕ) (i : ℕ) : Type 0 where
  pub within : i < length sections
  pub free : part_of p i ≡ None
  pub same : key_at key sections i ≡ wanted

-- each key of a free section in front of a place is in the map
abbrev pub HasKeysOfFree : Pairs → List Part → Key → (place : ℕ) → BTreeMap (Bor (List ℕ)) ℕ → Type 0
HasKeysOfFree p sections key place m = (i : ℕ) (wanted : List ℕ) → i < place → IsFreeWith p sections key wanted i
    → IsSome (found_for m wanted)

-- pairs came for this part alone, with a section that has this key
abbrev pub AddsSamePart : (old new : Pairs) → (sections : List Part) → Key → (place : ℕ) → (wanted : List ℕ) → Type 0
AddsSamePart old new sections key place wanted = (i j : ℕ) → section_of new j ≡ Some i
    → (section_of old j ≡ Some i) ⊎ ((j ≡ place) × (key_at key sections i ≡ wanted))

-- the part has a section, or no free section has its key
abbrev pub IsSettledPart : Pairs → (sections : List Part) → Key → (place : ℕ) → Part → Type 0
IsSettledPart p sections key place part = section_of p place ≡ None → is_keyed key part ≡ true → (i : ℕ)
    → IsFreeWith p sections key (key_in key part) i → ⊥

-- so has each part in front of a place
abbrev pub AreDone : Pairs → (sections parts : List Part) → Key → (place : ℕ) → Type 0
AreDone p sections parts key place = (j : ℕ) → j < place → IsSettledPart p sections key j (part_at parts j)

-- up to a place
pub record IsCompletedTo (start now : Pairs) (sections parts : List Part) (key : Key) (place : ℕ) : Type 0 where
  pub grows : GainsPairs key sections parts start now
  pub done : AreDone now sections parts key place
