-- The characters at which clusters end, and texts between which no cluster goes on.
use Rattle.std.proofs.Common.{◌≡◌, ℕ, Bool, true, false, not, ◌&&◌, ◌||◌, ◌<◌, ◌⊎◌, inl, inr, List, [], ◌∷◌, ◌++◌, length, map, Some, unwrap_or, refl, sym, ap, ap₂, ◌∙◌}
use Rattle.std.proofs.Common.{append_assoc, arith}
use Rattle.std.proofs.lemmas.Bool.{and_parts, not-true}
use Rattle.std.proofs.lemmas.List.{map-append}
use Rattle.std.proofs.lemmas.Str.{chars-append}
use Rattle.std.specs.Prelude.{encode_utf8_all}
use Rattle.std.specs.Str.{chars, IsUtf8}
use Rattle.ucd_breaks.specs.GraphemeClusterBreak.{grapheme_cluster_break}
use Rattle.ucd_breaks.specs.declared.GraphemeClusterBreak.{GraphemeClusterBreak}
use Rattle.ucd_breaks.specs.declared.GraphemeClusterBreak.TheVariants.{Control, Extend, Lf, Lv, Lvt, Other, RegionalIndicator, SpacingMark, T, V, Zwj}
use Rattle.ucd_breaks.proofs.Computing.{ucd_breaks}
use Rattle.ucd_derived.specs.IndicConjunctBreak.{indic_conjunct_break}
use Rattle.ucd_derived.specs.declared.IndicConjunctBreak.{IndicConjunctBreak}
use Rattle.ucd_derived.specs.declared.IndicConjunctBreak.TheVariants as InCb
use Rattle.ucd_derived.proofs.Computing.{ucd_derived}
use Rattle.ucd_emoji.specs.Binary.{is_extended_pictographic}
use Rattle.ucd_emoji.proofs.Computing.{ucd_emoji}
use Rattle.unicode_segmentation.specs.Grapheme.{break_by_pair, ends_in_linker, joins_emoji, is_extend, is_zwj, is_regional, ends_in_pictograph, ends_in_half_flag}
use Rattle.unicode_segmentation.specs.Grapheme.{is_grapheme_break}
use Rattle.unicode_segmentation.specs.Segments.{Rule, cut, segments}
use Rattle.cluster_text.specs.Boundaries.{closes, opens, ends_whole, first_opens, is_closed, is_free, is_indicator, is_mark, is_mark_class, is_joining, is_linking, last_closes, onto}
use Rattle.cluster_text.specs.Clusters.{clusters}
use Rattle.cluster_text.proofs.CutLemmas.{attach, attach-nil, ReadsNext, StopsAt, StopsAfter, cut-after, cut-apart, cut-boundary, cut-past}

-- no cluster goes over the boundary between two texts, and each has the clusters that it has alone
abbrev pub Apart : (a b : List ℕ) → Type 0
Apart a b = clusters (a ++ b) ≡ clusters a ++ clusters b

-- a character that closes, by the two tables
record Closing (c : ℕ) : Type 0 where
  pub free : is_free (grapheme_cluster_break c) ≡ true
  pub linking : is_linking (indic_conjunct_break c) ≡ false

closing : (c : ℕ) → closes c ≡ true → Closing c
closing c e =
    let parts = and_parts (is_free (grapheme_cluster_break c)) _ e in
    record { free = parts.0; linking = not-true _ parts.1 }

-- one that opens
record Opening (d : ℕ) : Type 0 where
  pub joining : is_joining (grapheme_cluster_break d) ≡ false
  pub linking : is_linking (indic_conjunct_break d) ≡ false

opening : (d : ℕ) → opens d ≡ true → Opening d
opening d e =
    let parts = and_parts (not (is_joining (grapheme_cluster_break d))) _ e in
    record { joining = not-true _ parts.0; linking = not-true _ parts.1 }

free-not_extend : (v : GraphemeClusterBreak) → is_free v ≡ true → (is_extend v ≡ false) × (is_zwj v ≡ false) × (is_regional v ≡ false)
free-not_extend Other e = (refl, refl, refl)
free-not_extend Control e = (refl, refl, refl)
free-not_extend Lf e = (refl, refl, refl)
free-not_extend Lv e = (refl, refl, refl)
free-not_extend Lvt e = (refl, refl, refl)
free-not_extend V e = (refl, refl, refl)
free-not_extend T e = (refl, refl, refl)
free-not_extend _ e = cc

opening-not_extend : (v : GraphemeClusterBreak) → is_joining v ≡ false → (is_extend v ≡ false) × (is_zwj v ≡ false)
opening-not_extend Extend e = cc
opening-not_extend Zwj e = cc
opening-not_extend _ e = (refl, refl)

linker-stop : (v : IndicConjunctBreak) (vs : List IndicConjunctBreak) → is_linking v ≡ false → ends_in_linker (v ∷ vs) ≡ false
unfolding ends_in_linker
linker-stop InCb.Linker vs e = e
linker-stop InCb.Extend vs e = cc
linker-stop _ vs e = refl

linker-cons : (v : IndicConjunctBreak) (vs ws : List IndicConjunctBreak) → ends_in_linker vs ≡ ends_in_linker ws → ends_in_linker (v ∷ vs) ≡ ends_in_linker (v ∷ ws)
unfolding ends_in_linker
linker-cons InCb.Linker vs ws e = refl
linker-cons InCb.Extend vs ws e = e
linker-cons _ vs ws e = refl

pair_breaks : (v w : GraphemeClusterBreak) → is_free v ≡ true → is_joining w ≡ false → unwrap_or (break_by_pair true v w) true ≡ true
pair_breaks Other Extend e f = sym f
pair_breaks Other Zwj e f = sym f
pair_breaks Other SpacingMark e f = sym f
pair_breaks Other w e f = refl
pair_breaks Lv Extend e f = sym f
pair_breaks Lv Zwj e f = sym f
pair_breaks Lv SpacingMark e f = sym f
pair_breaks Lv V e f = sym f
pair_breaks Lv T e f = sym f
pair_breaks Lv w e f = refl
pair_breaks Lvt Extend e f = sym f
pair_breaks Lvt Zwj e f = sym f
pair_breaks Lvt SpacingMark e f = sym f
pair_breaks Lvt T e f = sym f
pair_breaks Lvt w e f = refl
pair_breaks V Extend e f = sym f
pair_breaks V Zwj e f = sym f
pair_breaks V SpacingMark e f = sym f
pair_breaks V V e f = sym f
pair_breaks V T e f = sym f
pair_breaks V w e f = refl
pair_breaks T Extend e f = sym f
pair_breaks T Zwj e f = sym f
pair_breaks T SpacingMark e f = sym f
pair_breaks T T e f = sym f
pair_breaks T w e f = refl
pair_breaks Control w e f = refl
pair_breaks Lf w e f = refl
pair_breaks _ w e f = cc

regional_breaks : (v w : GraphemeClusterBreak) → is_regional v ≡ true → is_joining w ≡ false → (is_zwj v ≡ false) × (unwrap_or (break_by_pair true v w) true ≡ true)
regional_breaks RegionalIndicator Extend e f = cc
regional_breaks RegionalIndicator Zwj e f = cc
regional_breaks RegionalIndicator SpacingMark e f = cc
regional_breaks RegionalIndicator w e f = (refl, refl)
regional_breaks _ w e f = cc

-- after the character, and those before it, last first, a cluster ends at each one that opens
pub record Closed (c : ℕ) (before : List ℕ) : Type 0 where
  pub linker : ends_in_linker (map indic_conjunct_break (c ∷ before)) ≡ false
  pub zwj : is_zwj (grapheme_cluster_break c) ≡ false
  pub half : ends_in_half_flag (c ∷ before) ≡ false
  pub pair : (w : GraphemeClusterBreak) → is_joining w ≡ false → unwrap_or (break_by_pair true (grapheme_cluster_break c) w) true ≡ true

closed_by_class : (c : ℕ) (before : List ℕ) → closes c ≡ true → Closed c before
unfolding ends_in_half_flag
closed_by_class c before e =
    let stop = closing c e in
    let free = free-not_extend _ stop.free in
    record {
      linker = linker-stop (indic_conjunct_break c) (map indic_conjunct_break before) stop.linking;
      zwj = free.1;
      half = ap (λ b. b && not (ends_in_half_flag before)) free.2;
      pair = λ w f. pair_breaks _ w stop.free f;
    }

closed_by_flag : (c : ℕ) (before : List ℕ) → (is_indicator c && not (ends_in_half_flag (c ∷ before))) ≡ true → Closed c before
closed_by_flag c before e =
    let parts = and_parts (is_indicator c) _ e in
    let both = and_parts (is_regional (grapheme_cluster_break c)) _ parts.0 in
    record {
      linker = linker-stop (indic_conjunct_break c) (map indic_conjunct_break before) (not-true _ both.1);
      zwj = (regional_breaks _ Other both.0 refl).0;
      half = not-true _ parts.1;
      pair = λ w f. (regional_breaks _ w both.0 f).1;
    }

record Marking (v : GraphemeClusterBreak) : Type 0 where
  pub zwj : is_zwj v ≡ false
  pub regional : is_regional v ≡ false
  pub pair : (w : GraphemeClusterBreak) → is_joining w ≡ false → unwrap_or (break_by_pair true v w) true ≡ true

marking : (v : GraphemeClusterBreak) → is_mark_class v ≡ true → Marking v
marking v e = record { zwj = (apart v Other e refl).0; regional = (apart v Other e refl).1; pair = λ w f. (apart v w e f).2 }
  where
    apart : (v w : GraphemeClusterBreak) → is_mark_class v ≡ true → is_joining w ≡ false
        → (is_zwj v ≡ false) × (is_regional v ≡ false) × (unwrap_or (break_by_pair true v w) true ≡ true)
    apart Extend Extend e f = cc
    apart Extend Zwj e f = cc
    apart Extend SpacingMark e f = cc
    apart Extend w e f = (refl, refl, refl)
    apart SpacingMark Extend e f = cc
    apart SpacingMark Zwj e f = cc
    apart SpacingMark SpacingMark e f = cc
    apart SpacingMark w e f = (refl, refl, refl)
    apart _ w e f = cc

closed_by_mark : (c : ℕ) (before : List ℕ) → (is_mark c && not (ends_in_linker (map indic_conjunct_break (c ∷ before)))) ≡ true → Closed c before
unfolding ends_in_half_flag
closed_by_mark c before e =
    let parts = and_parts (is_mark c) _ e in
    let mark = marking (grapheme_cluster_break c) parts.0 in
    record { linker = not-true _ parts.1; zwj = mark.zwj; half = ap (λ b. b && not (ends_in_half_flag before)) mark.regional; pair = mark.pair }

either : (a b : Bool) → (a || b) ≡ true → (a ≡ true) ⊎ (b ≡ true)
either true b e = inl refl
either false b e = inr e

pub closed_after : (c : ℕ) (before : List ℕ) → ends_whole (c ∷ before) ≡ true → Closed c before
closed_after c before e =
    elim (either (closes c) _ e) [
      | inl one ↦ closed_by_class c before one
      | inr more ↦ elim (either (is_indicator c && not (ends_in_half_flag (c ∷ before))) _ more)
          [ inl flag ↦ closed_by_flag c before flag | inr mark ↦ closed_by_mark c before mark ]
    ]

-- no rule looks past a character that opens after such a place
module _ (c d : ℕ) (before : List ℕ) (stop : Closed c before) (start : Opening d) where
  linker-stops : (xs : List ℕ) → ends_in_linker (map indic_conjunct_break (xs ++ d ∷ c ∷ before)) ≡ ends_in_linker (map indic_conjunct_break (xs ++ d ∷ []))
  unfolding ends_in_linker
  linker-stops [] = linker-stop (indic_conjunct_break d) _ start.linking ∙ sym (linker-stop (indic_conjunct_break d) _ start.linking)
  linker-stops (x ∷ xs) = linker-cons (indic_conjunct_break x) _ _ (linker-stops xs)

  pictograph-stops : (xs : List ℕ) → ends_in_pictograph (xs ++ d ∷ c ∷ before) ≡ ends_in_pictograph (xs ++ d ∷ [])
  unfolding ends_in_pictograph
  pictograph-stops [] = rw (opening-not_extend _ start.joining).0 refl
  pictograph-stops (x ∷ xs) = ap (λ b. is_extended_pictographic x || (is_extend (grapheme_cluster_break x) && b)) (pictograph-stops xs)

  half_flag-stops : (xs : List ℕ) → ends_in_half_flag (xs ++ d ∷ c ∷ before) ≡ ends_in_half_flag (xs ++ d ∷ [])
  unfolding ends_in_half_flag
  half_flag-stops [] = ap (λ b. is_regional (grapheme_cluster_break d) && not b) stop.half
  half_flag-stops (x ∷ xs) = ap (λ b. is_regional (grapheme_cluster_break x) && not b) (half_flag-stops xs)

  emoji-stops : (xs : List ℕ) (n : ℕ) → joins_emoji (xs ++ d ∷ c ∷ before) n ≡ joins_emoji (xs ++ d ∷ []) n
  emoji-stops [] n = rw (opening-not_extend _ start.joining).1 refl
  emoji-stops (x ∷ xs) n = ap (λ b. is_zwj (grapheme_cluster_break x) && b && is_extended_pictographic n) (pictograph-stops xs)

  rule_stops : StopsAfter (is_grapheme_break true) d (c ∷ before)
  unfolding is_grapheme_break
  rule_stops [] [] = refl
  rule_stops (x ∷ xs) [] = refl
  rule_stops [] (n ∷ after) = rw (linker-stops [], emoji-stops [] n, half_flag-stops []) refl
  rule_stops (x ∷ xs) (n ∷ after) = rw (linker-stops (x ∷ xs), emoji-stops (x ∷ xs) n, half_flag-stops (x ∷ xs)) refl

-- there the pair of neighbors decides
rule_by_pair : (c : ℕ) (before : List ℕ) → Closed c before → (d : ℕ) (after : List ℕ)
    → is_grapheme_break true (c ∷ before) (d ∷ after) ≡ unwrap_or (break_by_pair true (grapheme_cluster_break c) (grapheme_cluster_break d)) true
unfolding is_grapheme_break
rule_by_pair c before stop d after =
    rw (stop.linker, stop.zwj, stop.half) refl

rule_reads_next : ReadsNext (is_grapheme_break true)
unfolding is_grapheme_break
rule_reads_next [] c xs ys = refl
rule_reads_next (b ∷ before) c xs ys = refl

-- where the texts fall apart by characters, they do by bytes
apart_from_break : (a b front ds : List ℕ) (c d : ℕ) → IsUtf8 a → chars a ≡ front ++ c ∷ [] → chars b ≡ d ∷ ds → Closed c (onto front []) → Opening d → Apart a b
unfolding segments
apart_from_break a b front ds c d utf8 is starts stop start =
    let rule = is_grapheme_break true in
    let pieces : List ℕ → List (List ℕ) = λ cs. cut rule [] cs [] in
    let breaks = rule_by_pair c (onto front []) stop d ds ∙ stop.pair _ start.joining in
    let whole : chars (a ++ b) ≡ front ++ c ∷ d ∷ ds =
    chars-append a b utf8 ∙ ap₂ ◌++◌ is starts ∙ append_assoc front (c ∷ []) (d ∷ ds) in
    ap (λ cs. map encode_utf8_all (pieces cs)) whole
    ∙ ap (map encode_utf8_all) (cut-apart rule c d front ds rule_reads_next (rule_stops c d (onto front []) stop start) breaks)
    ∙ map-append encode_utf8_all (pieces (front ++ c ∷ [])) (pieces (d ∷ ds))
    ∙ ap₂ (λ cs es. map encode_utf8_all (pieces cs) ++ map encode_utf8_all (pieces es)) (sym is) (sym starts)

record LastOf (cs : List ℕ) : Type 0 where
  pub front : List ℕ
  pub last : ℕ
  pub is : cs ≡ front ++ last ∷ []

last_split : (c : ℕ) (cs : List ℕ) → LastOf (c ∷ cs)
last_split c [] = record { front = []; last = c; is = refl }
last_split c (d ∷ cs) =
    let further = last_split d cs in
    record { front = c ∷ further.front; last = further.last; is = ap (λ ds. c ∷ ds) further.is }

last_of : (cs : List ℕ) → 0 < length cs → LastOf cs
last_of [] some = absurd (omega arith)
last_of (c ∷ cs) some = last_split c cs

pub onto-append : (xs ys before : List ℕ) → onto (xs ++ ys) before ≡ onto ys (onto xs before)
onto-append [] ys before = refl
onto-append (x ∷ xs) ys before = onto-append xs ys (x ∷ before)

first_of : (cs : List ℕ) → first_opens cs ≡ true → (d : ℕ) × (ds : List ℕ) × (cs ≡ d ∷ ds) × Opening d
first_of [] e = cc
first_of (d ∷ ds) e = (d, ds, refl, opening d e)

-- a text after which a cluster ends stands apart from one that begins with a character that opens
pub apart-closed : (a b : List ℕ) → IsUtf8 a → 0 < length (chars a) → is_closed (chars a) ≡ true → first_opens (chars b) ≡ true → Apart a b
apart-closed a b utf8 some closed opening =
    let l = last_of (chars a) some in
    let f = first_of (chars b) opening in
    let ends = sym (ap ends_whole (ap (λ cs. onto cs []) l.is ∙ onto-append l.front (l.last ∷ []) [])) ∙ closed in
    apart_from_break a b l.front f.1 l.last f.0 utf8 l.is f.2 (closed_after l.last (onto l.front []) ends) f.3

-- ---- the ends of texts

-- after a character that closes a cluster ends, whatever stands before it
pub closed_by_last : (cs before : List ℕ) → last_closes cs ≡ true → ends_whole (onto cs before) ≡ true
closed_by_last [] before e = cc
closed_by_last (c ∷ []) before e = rw e refl
closed_by_last (c ∷ d ∷ cs) before e = closed_by_last (d ∷ cs) (c ∷ before) e

ends_whole-linker : (zs : List ℕ) → ends_whole zs ≡ true → ends_in_linker (map indic_conjunct_break zs) ≡ false
unfolding ends_in_linker
ends_whole-linker [] e = refl
ends_whole-linker (c ∷ before) e = (closed_after c before e).linker

linker-past : (zs before : List ℕ) → ends_in_linker (map indic_conjunct_break before) ≡ false
    → ends_in_linker (map indic_conjunct_break (zs ++ before)) ≡ ends_in_linker (map indic_conjunct_break zs)
unfolding ends_in_linker
linker-past [] before e = e
linker-past (z ∷ zs) before e = linker-cons (indic_conjunct_break z) _ _ (linker-past zs before e)

ends_whole-half : (zs : List ℕ) → ends_whole zs ≡ true → ends_in_half_flag zs ≡ false
unfolding ends_in_half_flag
ends_whole-half [] e = refl
ends_whole-half (c ∷ before) e = (closed_after c before e).half

onto-front : (cs before : List ℕ) → onto cs before ≡ onto cs [] ++ before
onto-front [] before = refl
onto-front (c ∷ cs) before =
    onto-front cs (c ∷ before) ∙ sym (append_assoc (onto cs []) (c ∷ []) before) ∙ ap (λ ds. ds ++ before) (sym (onto-front cs (c ∷ [])))

half_flag-past : (zs before : List ℕ) → ends_in_half_flag before ≡ false → ends_in_half_flag (zs ++ before) ≡ ends_in_half_flag zs
unfolding ends_in_half_flag
half_flag-past [] before e = e
half_flag-past (z ∷ zs) before e = ap (λ b. is_regional (grapheme_cluster_break z) && not b) (half_flag-past zs before e)

ends_whole-past : (zs before : List ℕ) → ends_whole before ≡ true → ends_whole (zs ++ before) ≡ true → ends_whole zs ≡ true
ends_whole-past [] before old e = refl
ends_whole-past (z ∷ zs) before old e =
    let half = half_flag-past (z ∷ zs) before (ends_whole-half before old) in
    let linker = linker-past (z ∷ zs) before (ends_whole-linker before old) in
    ap₂ (λ a b. closes z || ((is_indicator z && not a) || (is_mark z && not b))) (sym half) (sym linker) ∙ e

-- of two texts, one after the other, that end so, the second one does too
pub closed-behind : (xs ys : List ℕ) → is_closed xs ≡ true → is_closed (xs ++ ys) ≡ true → is_closed ys ≡ true
closed-behind xs ys one both =
    ends_whole-past (onto ys []) (onto xs []) one
    (ap ends_whole (sym (onto-append xs ys [] ∙ onto-front ys (onto xs []))) ∙ both)

-- ---- NUL

nul_class : grapheme_cluster_break 0 ≡ Control
unfolding ucd_breaks
nul_class = refl

pub nul_closes : closes 0 ≡ true
unfolding ucd_breaks ucd_derived
nul_closes = refl

nul_pictograph : is_extended_pictographic 0 ≡ false
unfolding ucd_emoji
nul_pictograph = refl

pub nul_opens : opens 0 ≡ true
unfolding ucd_breaks ucd_derived
nul_opens = refl

-- GB4 and GB5
control_first : (v w : GraphemeClusterBreak) (other : Bool) → v ≡ Control → unwrap_or (break_by_pair true v w) other ≡ true
control_first Control w other e = refl
control_first _ w other e = cc

control_last : (v w : GraphemeClusterBreak) (other : Bool) → w ≡ Control → unwrap_or (break_by_pair true v w) other ≡ true
control_last v w other e = ap (λ (x : GraphemeClusterBreak). unwrap_or (break_by_pair true v x) other) e ∙ ap (λ o. unwrap_or o other) (before v)
  where
    before : (v : GraphemeClusterBreak) → break_by_pair true v Control ≡ Some true
    before Control = refl
    before _ = refl

pub breaks_after_nul : (before ds : List ℕ) → is_grapheme_break true (0 ∷ before) ds ≡ true
unfolding is_grapheme_break
breaks_after_nul before [] = refl
breaks_after_nul before (d ∷ ds) = control_first (grapheme_cluster_break 0) (grapheme_cluster_break d) _ nul_class

breaks_before_nul : (c : ℕ) (before : List ℕ) → is_grapheme_break true (c ∷ before) (0 ∷ []) ≡ true
unfolding is_grapheme_break
breaks_before_nul c before = control_last (grapheme_cluster_break c) (grapheme_cluster_break 0) _ nul_class

-- characters in front of a NUL have the pieces that they have alone
pub cut-nul : (cs : List ℕ) → cut (is_grapheme_break true) [] (cs ++ 0 ∷ []) [] ≡ cut (is_grapheme_break true) [] cs [] ++ (0 ∷ []) ∷ []
unfolding cut
cut-nul [] = attach-nil _ (0 ∷ [])
cut-nul (c ∷ cs) = by c cs (last-split c cs)
  where
    rule : Rule
    rule = is_grapheme_break true

    last-split : (c : ℕ) (cs : List ℕ) → (front : List ℕ) × (last : ℕ) × (c ∷ cs ≡ front ++ last ∷ [])
    last-split c [] = ([], c, refl)
    last-split c (d ∷ cs) = let further = last-split d cs in (c ∷ further.0, further.1, ap (λ ds. c ∷ ds) further.2)

    by : (c : ℕ) (cs : List ℕ) → (front : List ℕ) × (last : ℕ) × (c ∷ cs ≡ front ++ last ∷ []) → cut rule [] ((c ∷ cs) ++ 0 ∷ []) [] ≡ cut rule [] (c ∷ cs) [] ++ (0 ∷ []) ∷ []
    by c cs l =
        ap (λ ds. cut rule [] (ds ++ 0 ∷ []) []) l.2
        ∙ ap (λ ds. cut rule [] ds []) (append_assoc l.0 (l.1 ∷ []) (0 ∷ []))
        ∙ cut-boundary rule [] l.0 l.1 (0 ∷ []) [] (breaks_before_nul l.1 (onto l.0 []))
        ∙ ap₂ ◌++◌ (cut-after rule rule_reads_next [] (l.0 ++ l.1 ∷ []) (0 ∷ [])) (attach-nil _ (0 ∷ []))
        ∙ ap (λ ds. cut rule [] ds [] ++ (0 ∷ []) ∷ []) (sym l.2)

-- no rule looks past a NUL
nul-linker : (xs older : List ℕ) → ends_in_linker (map indic_conjunct_break (xs ++ 0 ∷ older)) ≡ ends_in_linker (map indic_conjunct_break xs)
unfolding ends_in_linker
nul-linker [] older = linker-stop (indic_conjunct_break 0) _ (closing 0 nul_closes).linking
nul-linker (x ∷ xs) older = linker-cons (indic_conjunct_break x) _ _ (nul-linker xs older)

nul-pictograph : (xs older : List ℕ) → ends_in_pictograph (xs ++ 0 ∷ older) ≡ ends_in_pictograph xs
unfolding ends_in_pictograph
nul-pictograph [] older = rw (nul_pictograph, (free-not_extend _ (closing 0 nul_closes).free).0) refl
nul-pictograph (x ∷ xs) older = ap (λ b. is_extended_pictographic x || (is_extend (grapheme_cluster_break x) && b)) (nul-pictograph xs older)

nul-half_flag : (xs older : List ℕ) → ends_in_half_flag (xs ++ 0 ∷ older) ≡ ends_in_half_flag xs
unfolding ends_in_half_flag
nul-half_flag [] older = rw (free-not_extend _ (closing 0 nul_closes).free).2 refl
nul-half_flag (x ∷ xs) older = ap (λ b. is_regional (grapheme_cluster_break x) && not b) (nul-half_flag xs older)

nul_stops : StopsAt (is_grapheme_break true) 0
unfolding is_grapheme_break
nul_stops d xs older [] = refl
nul_stops d xs older (n ∷ after) = rw (nul-linker (d ∷ xs) older, nul-pictograph xs older, nul-half_flag (d ∷ xs) older) refl

-- a NUL on each side is a piece of its own
pub cut-enclosed : (cs : List ℕ) → cut (is_grapheme_break true) [] (0 ∷ (cs ++ 0 ∷ [])) [] ≡ (0 ∷ []) ∷ (cut (is_grapheme_break true) [] cs [] ++ (0 ∷ []) ∷ [])
unfolding cut
cut-enclosed cs =
    let rule = is_grapheme_break true in
    ap (λ b. attach b (0 ∷ []) (cut rule (0 ∷ []) (cs ++ 0 ∷ []) [])) (breaks_after_nul [] ((cs ++ 0 ∷ []) ++ []))
    ∙ ap (λ ps. (0 ∷ []) ∷ ps) (cut-past rule 0 nul_stops [] [] (cs ++ 0 ∷ []) [] ∙ cut-nul cs)
