-- The places where a cluster ends and another begins, whatever stands around them.
use Rattle.std.specs.Prelude.{ℕ, Bool, true, false, not, ◌&&◌, ◌||◌, List, [], ◌∷◌, map, nat_eq, nat_le}
use Rattle.std.specs.List.{list_any}
use Rattle.std.specs.Str.{chars}
use Rattle.ucd_breaks.specs.GraphemeClusterBreak.{grapheme_cluster_break}
use Rattle.ucd_breaks.specs.declared.GraphemeClusterBreak.{GraphemeClusterBreak}
use Rattle.ucd_breaks.specs.declared.GraphemeClusterBreak.TheVariants.{Control, Extend, Lf, Lv, Lvt, Other, SpacingMark, T, V, Zwj}
use Rattle.ucd_derived.specs.IndicConjunctBreak.{indic_conjunct_break}
use Rattle.ucd_derived.specs.declared.IndicConjunctBreak.{IndicConjunctBreak}
use Rattle.ucd_derived.specs.declared.IndicConjunctBreak.TheVariants as InCb
use Rattle.unicode_segmentation.specs.Grapheme.{ends_in_half_flag, ends_in_linker, is_regional}

-- a class that joins nothing after it but marks, and vowels and ends of Hangul syllables: letters, emoji, controls, LF, Hangul
abbrev pub is_free : GraphemeClusterBreak → Bool
is_free Other = true
is_free Control = true
is_free Lf = true
is_free Lv = true
is_free Lvt = true
is_free V = true
is_free T = true
is_free _ = false

-- a class that joins what stands before it: marks, and vowels and ends of Hangul syllables
abbrev pub is_joining : GraphemeClusterBreak → Bool
is_joining Extend = true
is_joining Zwj = true
is_joining SpacingMark = true
is_joining V = true
is_joining T = true
is_joining _ = false

-- the rule on conjuncts looks past such a character
abbrev pub is_linking : IndicConjunctBreak → Bool
is_linking InCb.Linker = true
is_linking InCb.Extend = true
is_linking _ = false

-- after the character a cluster ends, where none that joins could go on with it
abbrev pub closes : ℕ → Bool
closes c = is_free (grapheme_cluster_break c) && not (is_linking (indic_conjunct_break c))

-- the character goes on with no cluster that such a character ends, and no rule looks past it
abbrev pub opens : ℕ → Bool
opens c = not (is_joining (grapheme_cluster_break c)) && not (is_linking (indic_conjunct_break c))

-- the first of the characters is one that opens
abbrev pub first_opens : List ℕ → Bool
first_opens [] = false
first_opens (c ∷ cs) = opens c

-- the last of the characters is one that closes
abbrev pub last_closes : List ℕ → Bool
last_closes [] = false
last_closes (c ∷ []) = closes c
last_closes (c ∷ d ∷ cs) = last_closes (d ∷ cs)

-- a regional indicator, two of which make a flag
abbrev pub is_indicator : ℕ → Bool
is_indicator c = is_regional (grapheme_cluster_break c) && not (is_linking (indic_conjunct_break c))

-- a mark on what stands before it
abbrev pub is_mark_class : GraphemeClusterBreak → Bool
is_mark_class Extend = true
is_mark_class SpacingMark = true
is_mark_class _ = false

-- the scalar joins what is in front of it
abbrev pub is_mark : ℕ → Bool
is_mark c = is_mark_class (grapheme_cluster_break c)

-- the characters, last first, end in one that closes, in whole flags, or in a mark that leaves no conjunct open; or there is none
abbrev pub ends_whole : List ℕ → Bool
ends_whole [] = true
ends_whole (c ∷ before) =
    closes c
    || ((is_indicator c && not (ends_in_half_flag (c ∷ before)))
    || (is_mark c && not (ends_in_linker (map indic_conjunct_break (c ∷ before)))))

-- the characters of cs, last first, and then `before`
abbrev pub onto : List ℕ → List ℕ → List ℕ
onto [] before = before
onto (c ∷ cs) before = onto cs (c ∷ before)

-- after the characters a cluster ends, where none that joins could go on with it
abbrev pub is_closed : List ℕ → Bool
is_closed cs = ends_whole (onto cs [])

-- a text that begins and ends so: between two of them no cluster goes over the boundary
abbrev pub stands_alone : List ℕ → Bool
stands_alone text = first_opens (chars text) && is_closed (chars text)

-- a byte of a character that is not of ASCII, or a CR
abbrev pub is_special : ℕ → Bool
is_special byte = nat_le 128 byte || nat_eq byte 13

-- a text of characters of ASCII without a CR: each is a cluster of its own
abbrev pub is_plain : List ℕ → Bool
is_plain text = not (list_any is_special text)
