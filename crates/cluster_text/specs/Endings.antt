-- How characters end, as a small value that goes on with each of them.
use Rattle.std.specs.Prelude.{◌≡◌, ℕ, Bool, true, false, not, ◌&&◌, ◌||◌, List, [], map}
use Rattle.ucd_breaks.specs.GraphemeClusterBreak.{grapheme_cluster_break}
use Rattle.ucd_derived.specs.IndicConjunctBreak.{indic_conjunct_break}
use Rattle.ucd_derived.specs.declared.IndicConjunctBreak.{IndicConjunctBreak}
use Rattle.ucd_derived.specs.declared.IndicConjunctBreak.TheVariants as InCb
use Rattle.unicode_segmentation.specs.Grapheme.{ends_in_half_flag, ends_in_linker, is_regional}
use Rattle.cluster_text.specs.Boundaries.{closes, is_closed, is_indicator, is_mark, onto}
use Rattle.cluster_text.specs.declared.ending.Ending.{Ending}

-- whether a conjunct is open after a character of the class, where one was or was not before it
abbrev pub stays_open : IndicConjunctBreak → Bool → Bool
stays_open InCb.Linker before = true
stays_open InCb.Extend before = before
stays_open _ before = false

-- the ending with one more character
abbrev pub ending_with : Ending → ℕ → Ending
ending_with ending c =
    record {
      last = c;
      half = is_regional (grapheme_cluster_break c) && not ending.half;
      conjunct = stays_open (indic_conjunct_break c) ending.conjunct;
    }

-- after such an ending a cluster ends
abbrev pub ends_cluster : Ending → Bool
ends_cluster ending = closes ending.last || ((is_indicator ending.last && not ending.half) || (is_mark ending.last && not ending.conjunct))

-- the characters end so
pub record IsEnding (cs : List ℕ) (ending : Ending) : Type 0 where
  pub half_is : ending.half ≡ ends_in_half_flag (onto cs [])
  pub conjunct_is : ending.conjunct ≡ ends_in_linker (map indic_conjunct_break (onto cs []))
  pub whole_is : ends_cluster ending ≡ is_closed cs
