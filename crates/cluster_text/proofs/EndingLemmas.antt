-- How characters end that go on.
use Rattle.std.proofs.Common.{◌≡◌, ℕ, false, not, ◌&&◌, ◌||◌, List, [], ◌∷◌, ◌++◌, map, refl, sym, ap, ap₂, subst, ◌∙◌, append_assoc, append-nil}
use Rattle.std.specs.List.{fold}
use Rattle.ucd_breaks.specs.GraphemeClusterBreak.{grapheme_cluster_break}
use Rattle.ucd_derived.specs.IndicConjunctBreak.{indic_conjunct_break}
use Rattle.ucd_derived.specs.declared.IndicConjunctBreak.{IndicConjunctBreak}
use Rattle.ucd_derived.specs.declared.IndicConjunctBreak.TheVariants as InCb
use Rattle.unicode_segmentation.specs.Grapheme.{ends_in_half_flag, ends_in_linker, is_regional}
use Rattle.cluster_text.specs.Boundaries.{closes, ends_whole, is_indicator, is_mark, onto}
use Rattle.cluster_text.specs.Endings.{IsEnding, ending_with, stays_open}
use Rattle.cluster_text.specs.declared.ending.Ending.{Ending}
use Rattle.cluster_text.proofs.BoundaryLemmas.{nul_closes, onto-append}

pub ending-none : IsEnding [] (record { last = 0; half = false; conjunct = false })
unfolding ends_in_half_flag ends_in_linker
ending-none = record { half_is = refl; conjunct_is = refl; whole_is = rw nul_closes refl }

stays_open-is : (v : IndicConjunctBreak) (vs : List IndicConjunctBreak) → stays_open v (ends_in_linker vs) ≡ ends_in_linker (v ∷ vs)
unfolding ends_in_linker
stays_open-is InCb.Linker vs = refl
stays_open-is InCb.Extend vs = refl
stays_open-is _ vs = refl

pub ending-next : (cs : List ℕ) (ending : Ending) (c : ℕ) → IsEnding cs ending → IsEnding (cs ++ c ∷ []) (ending_with ending c)
unfolding ends_in_half_flag
ending-next cs ending c is =
    let behind : onto (cs ++ c ∷ []) [] ≡ c ∷ onto cs [] = onto-append cs (c ∷ []) [] in
    let half : (is_regional (grapheme_cluster_break c) && not ending.half) ≡ ends_in_half_flag (c ∷ onto cs []) =
    ap (λ b. is_regional (grapheme_cluster_break c) && not b) is.half_is in
    let conjunct : stays_open (indic_conjunct_break c) ending.conjunct ≡ ends_in_linker (map indic_conjunct_break (c ∷ onto cs [])) =
    ap (stays_open (indic_conjunct_break c)) is.conjunct_is ∙ stays_open-is (indic_conjunct_break c) (map indic_conjunct_break (onto cs [])) in
    record {
      half_is = half ∙ ap ends_in_half_flag (sym behind);
      conjunct_is = conjunct ∙ ap (λ ds. ends_in_linker (map indic_conjunct_break ds)) (sym behind);
      whole_is = ap₂ (λ a b. closes c || ((is_indicator c && not a) || (is_mark c && not b))) half conjunct ∙ ap ends_whole (sym behind);
    }

pub ending-all : (cs : List ℕ) (ending : Ending) (ds : List ℕ) → IsEnding cs ending → IsEnding (cs ++ ds) (fold ending_with ending ds)
ending-all cs ending [] is = subst (λ (es : List ℕ). IsEnding es ending) (sym (append-nil cs)) is
ending-all cs ending (d ∷ ds) is =
    subst (λ (es : List ℕ). IsEnding es (fold ending_with (ending_with ending d) ds)) (append_assoc cs (d ∷ []) ds)
    (ending-all (cs ++ d ∷ []) (ending_with ending d) ds (ending-next cs ending d is))
