-- Texts by a mark of their first third: a number that is the same for the same scalars.
use Rattle.std.specs.Prelude.{◌≡◌, ◌⊎◌, ℕ, ◌+◌, ◌-◌, ◌*◌, ◌<◌, ◌≤◌, ◌/◌, ◌%◌, false, Option, None, Some, List, [], ◌∷◌, length, min}
use Rattle.std.specs.Prelude.{reverse, slice_get, slice_index, slice_index_or, take}
use Rattle.std.specs.BTreeMap.{get}
use Rattle.std.specs.Ordering.{nat_cmp}
use Rattle.section_plan.specs.Likeness.{alike}
use Rattle.section_plan.specs.Matching.{part_of}
use Rattle.section_plan.specs.declared.alike.Scalars.{Scalars}
use Rattle.section_plan.specs.declared.hashes.HashIndex.{HashIndex}
use Rattle.section_plan.specs.declared.hashes.TheConstants.{MODULUS}
use Rattle.section_plan.specs.declared.pairs.Pairs.{Pairs}

-- the mark of a text with one scalar more
abbrev pub next_hash : (hash scalar : ℕ) → ℕ
next_hash hash scalar = (hash % MODULUS * 31 + scalar) % MODULUS

-- the mark of a text, from that of what is in front of it
abbrev pub hash_from : ℕ → List ℕ → ℕ
hash_from hash [] = hash
hash_from hash (c ∷ cs) = hash_from (next_hash hash c) cs

-- the mark of a text: a hash, which is the same for equal texts
abbrev pub hash_of_text : List ℕ → ℕ
hash_of_text text = hash_from 0 text

-- the first position from `from` on that has this mark: None where there is none
abbrev pub IsFirst : (hashes : List ℕ) → (from hash : ℕ) → Option ℕ → Type 0
IsFirst hashes from hash None = (j : ℕ) → from ≤ j → j < length hashes → slice_index hashes j ≡ hash → ⊥
IsFirst hashes from hash (Some k) =
    (from ≤ k) × (k < length hashes) × (slice_index hashes k ≡ hash)
    × ((j : ℕ) → from ≤ j → j < length hashes → slice_index hashes j ≡ hash → k ≤ j)

-- from a place on the first one of each mark, and for each place the next one with its mark
pub record AreHashed (hashes : List ℕ) (from : ℕ) (first : ℕ → Option ℕ) (next : List (Option ℕ)) : Type 0 where
  pub long : length next ≡ length hashes
  pub starts : (hash : ℕ) → IsFirst hashes from hash (first hash)
  pub chains : (k : ℕ) → from ≤ k → k < length hashes → IsFirst hashes (k + 1) (slice_index hashes k) (slice_index_or next k None)

-- no free section whose text has this mark is alike
abbrev pub NoneHashed : Pairs → List Scalars → (hashes : List ℕ) → (hash : ℕ) → (text : List ℕ) → Type 0
NoneHashed p sections hashes hash text = (k : ℕ) (s : Scalars) → slice_get sections k ≡ Some s → slice_index hashes k ≡ hash
    → part_of p s.place ≡ None → alike s.list.items text ≡ false

-- the place is not in front of the next one
abbrev pub IsNotBefore : Option ℕ → ℕ → Type 0
IsNotBefore None j = ⊥
IsNotBefore (Some k) j = k ≤ j

-- the next place has this mark, and of those in front of it that have it no free section is alike
pub record AreTried (p : Pairs) (sections : List Scalars) (hashes : List ℕ) (hash : ℕ) (text : List ℕ) (next : Option ℕ) : Type 0 where
  pub there : (k : ℕ) → next ≡ Some k → (k < length hashes) × (slice_index hashes k ≡ hash)
  pub tried : (k : ℕ) (s : Scalars) → slice_get sections k ≡ Some s → slice_index hashes k ≡ hash → part_of p s.place ≡ None
      → (alike s.list.items text ≡ false) ⊎ IsNotBefore next k

-- the first one of two places, where there are any
abbrev pub earlier : (one other : Option ℕ) → Option ℕ
earlier None other = other
earlier (Some k) None = Some k
earlier (Some k) (Some j) = Some (min k j)

-- no free section is alike whose text has the mark of a prefix of a list, of fewer scalars than `first`
abbrev pub NoneFronted : Pairs → List Scalars → (hashes : List ℕ) → (list : List ℕ) → (first : ℕ) → (text : List ℕ) → Type 0
NoneFronted p sections hashes list first text = (w : ℕ) → w < first → NoneHashed p sections hashes (hash_of_text (take w list)) text

-- of so many places, so many turns are left at most
abbrev pub turns_left : (places : ℕ) → Option ℕ → ℕ
turns_left places None = 0
turns_left places (Some k) = places - k

-- the marks of the first thirds of lists
abbrev pub third_hash : List ℕ → ℕ
third_hash list = hash_of_text (take (length list / 3) list)

-- each of the first texts has the mark of the first third of a list of it
pub record AreThirds (list : Scalars → List ℕ) (texts : List Scalars) (first : ℕ) (hashes : List ℕ) : Type 0 where
  pub long : length hashes ≡ first
  pub each : (k : ℕ) (s : Scalars) → k < first → slice_get texts k ≡ Some s → slice_index hashes k ≡ third_hash (list s)

-- the scalars of a text
abbrev pub list_of : Scalars → List ℕ
list_of s = s.list.items

-- the scalars of a text, the last one first
abbrev pub reversed_of : Scalars → List ℕ
reversed_of s = s.reversed.items

-- each text is there from the end on too
abbrev pub AreReversed : List Scalars → Type 0
AreReversed texts = (k : ℕ) (s : Scalars) → slice_get texts k ≡ Some s → s.reversed.items ≡ reverse s.list.items

-- texts by the marks of lists of them
pub record IsHashedBy (list : Scalars → List ℕ) (texts : List Scalars) (m : HashIndex) : Type 0 where
  pub thirds : AreThirds list texts (length texts) m.hashes.items
  pub hashed : AreHashed m.hashes.items 0 (get nat_cmp m.first) m.next.items

-- the texts by their fronts and by their ends
pub record IsTextIndex (texts : List Scalars) (front end : HashIndex) : Type 0 where
  pub reversed : AreReversed texts
  pub by_front : IsHashedBy list_of texts front
  pub by_end : IsHashedBy reversed_of texts end
