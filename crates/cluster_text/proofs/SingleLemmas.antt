-- Clusters of one scalar each.
use Rattle.std.proofs.Common.{◌≡◌, ℕ, zero, suc, ◌<◌, ◌≤◌, ◌||◌, ◌&&◌, Bool, true, false, not, List, [], ◌∷◌, ◌++◌, map, length, take, refl, sym, ap, ◌∙◌, ◌+◌, arith}
use Rattle.std.proofs.Common.{length-append}
use Rattle.std.proofs.lemmas.List.{length-map, take-map}
use Rattle.std.proofs.lemmas.Str.{chars-IsAscii, scalars-chars, IsUtf8-from_ascii}
use Rattle.std.proofs.lemmas.Str.Ascii.{IsAscii-cons, IsAscii-nil}
use Rattle.std.specs.List.{concat, list_any}
use Rattle.std.specs.Prelude.{encode_utf8_all, nat_eq, nat_le}
use Rattle.std.specs.Str.{IsAscii, IsUtf8, chars}
use Rattle.ucd_breaks.specs.GraphemeClusterBreak.{grapheme_cluster_break}
use Rattle.ucd_breaks.proofs.Computing.{ucd_breaks}
use Rattle.ucd_breaks.proofs.GraphemeClusterBreakLemmas.{grapheme_cluster_break_stepped}
use Rattle.ucd_derived.specs.IndicConjunctBreak.{indic_conjunct_break}
use Rattle.ucd_derived.proofs.Computing.{ucd_derived}
use Rattle.ucd_derived.proofs.IndicConjunctBreakLemmas.{indic_conjunct_break_stepped}
use Rattle.ucd_table.proofs.Facts.{Stepped-below}
use Rattle.unicode_segmentation.specs.Grapheme.{is_grapheme_break}
use Rattle.unicode_segmentation.specs.Segments.{Rule, cut, segments}
use Rattle.cluster_text.specs.Boundaries.{closes, opens, first_opens, last_closes, is_free, is_joining, is_linking, is_plain, is_special}
use Rattle.cluster_text.specs.Clusters.{clusters, scalars}
use Rattle.cluster_text.proofs.BoundaryLemmas.{apart-closed, closed_by_last}
use Rattle.cluster_text.proofs.CutLemmas.{attach, attach-nil}
use Rattle.cluster_text.proofs.TextLemmas.{AllScalars, clusters-nil, concat-cut, cut_scalars, scalars-pieces}
use Rattle.std.proofs.lemmas.Bool.{and_from}

-- ---- where there are as many clusters as scalars, each has one

abbrev AllFilled : List (List ℕ) → Type 0
AllFilled [] = Unit {0}
AllFilled (p ∷ ps) = (0 < length p) × AllFilled ps

attach_filled : (b : Bool) (c : ℕ) (ps : List (List ℕ)) → AllFilled ps → AllFilled (attach b (c ∷ []) ps)
attach_filled true c ps all = (omega arith, all)
attach_filled false c [] all = (omega arith, tt)
attach_filled false c (p ∷ ps) all = (omega arith, all.1)

cut_filled : (rule : Rule) (before cs after : List ℕ) → AllFilled (cut rule before cs after)
unfolding cut
cut_filled rule before [] after = tt
cut_filled rule before (c ∷ cs) after = attach_filled (rule (c ∷ before) (cs ++ after)) c _ (cut_filled rule (c ∷ before) cs after)

few_pieces : (ps : List (List ℕ)) → AllFilled ps → length ps ≤ length (concat ps)
few_pieces [] all = omega arith
few_pieces (p ∷ ps) all = omega (arith, few_pieces ps all.1, all.0, length-append p (concat ps))

front_of_singles : (n : ℕ) (ps : List (List ℕ)) → AllFilled ps → length ps ≡ length (concat ps) → n ≤ length ps → length (concat (take n ps)) ≡ n
front_of_singles zero ps all same le = refl
front_of_singles (suc n) [] all same le = absurd (omega arith)
front_of_singles (suc n) (p ∷ ps) all same le =
    let few = few_pieces ps all.1 in
    let whole = length-append p (concat ps) in
    let rest : length ps ≡ length (concat ps) = omega (arith, same, few, whole, all.0) in
    let further = front_of_singles n ps all.1 rest (omega (arith, le)) in
    omega (arith, further, length-append p (concat (take n ps)), same, rest, whole)

taken_scalars : (n : ℕ) (ps : List (List ℕ)) → AllScalars ps → AllScalars (take n ps)
taken_scalars zero ps all = tt
taken_scalars (suc n) [] all = tt
taken_scalars (suc n) (p ∷ ps) all = (all.0, taken_scalars n ps all.1)

pub front-singles : (text : List ℕ) (n : ℕ) → IsUtf8 text → length (clusters text) ≡ length (chars text) → n ≤ length (clusters text)
    → scalars (take n (clusters text)) ≡ n
unfolding segments
front-singles text n utf8 same le =
    let pieces = cut (is_grapheme_break true) [] (chars text) [] in
    let count = length-map pieces encode_utf8_all in
    let whole = ap length (concat-cut (is_grapheme_break true) [] (chars text) []) in
    ap scalars (take-map encode_utf8_all n pieces)
    ∙ scalars-pieces (take n pieces) (taken_scalars n pieces (cut_scalars _ [] (chars text) [] (scalars-chars text utf8)))
    ∙ front_of_singles n pieces (cut_filled _ [] (chars text) []) (omega (arith, count, same, whole)) (omega (arith, count, le))

-- a text has no more clusters than scalars
pub few_clusters : (text : List ℕ) → length (clusters text) ≤ length (chars text)
unfolding segments
few_clusters text =
    let pieces = cut (is_grapheme_break true) [] (chars text) [] in
    omega (arith, length-map pieces encode_utf8_all, few_pieces pieces (cut_filled _ [] (chars text) []), ap length (concat-cut (is_grapheme_break true) [] (chars text) []))

-- ---- characters of ASCII

either_first : (a b : Bool) → (a || b) ≡ true → b ≡ false → a ≡ true
either_first true b e f = refl
either_first false b e f = sym (sym e ∙ f)

module _ (c : ℕ) (below : c < 128) where
  free_below : (is_free (grapheme_cluster_break c) || nat_eq c 13) ≡ true
  unfolding ucd_breaks
  free_below = Stepped-below grapheme_cluster_break grapheme_cluster_break_stepped (λ x v. is_free v || nat_eq x 13) 128 refl c below

  linking_below : not (is_linking (indic_conjunct_break c)) ≡ true
  unfolding ucd_derived
  linking_below = Stepped-below indic_conjunct_break indic_conjunct_break_stepped (λ x v. not (is_linking v)) 128 refl c below

  joining_below : not (is_joining (grapheme_cluster_break c)) ≡ true
  unfolding ucd_breaks
  joining_below = Stepped-below grapheme_cluster_break grapheme_cluster_break_stepped (λ x v. not (is_joining v)) 128 refl c below

  pub ascii_opens : opens c ≡ true
  ascii_opens = and_from _ _ joining_below linking_below

  pub ascii_closes : nat_eq c 13 ≡ false → closes c ≡ true
  ascii_closes other = and_from _ _ (either_first _ _ free_below other) linking_below

-- a byte that is not special
ordinary : (b : ℕ) → is_special b ≡ false → (b < 128) × (nat_eq b 13 ≡ false)
ordinary b e = (omega (arith, no-le 128 b (neither _ _ e).0), (neither _ _ e).1)
  where
    neither : (x y : Bool) → (x || y) ≡ false → (x ≡ false) × (y ≡ false)
    neither false y e = (refl, e)
    neither true y e = cc

    no-le : (m n : ℕ) → nat_le m n ≡ false → n < m
    no-le m n e = grind arith

plain_parts : (b : ℕ) (bs : List ℕ) → is_plain (b ∷ bs) ≡ true → (is_special b ≡ false) × (is_plain bs ≡ true)
plain_parts b bs e = neither (is_special b) (list_any is_special bs) e
  where
    neither : (x y : Bool) → not (x || y) ≡ true → (x ≡ false) × (not y ≡ true)
    neither false y e = (refl, e)
    neither true y e = cc

plain_ascii : (text : List ℕ) → is_plain text ≡ true → IsAscii text
plain_ascii [] e = IsAscii-nil
plain_ascii (b ∷ bs) e = let parts = plain_parts b bs e in IsAscii-cons b bs (ordinary b parts.0).0 (plain_ascii bs parts.1)

one_cluster : (b : ℕ) → IsAscii (b ∷ []) → length (clusters (b ∷ [])) ≡ 1
unfolding segments cut
one_cluster b ascii = ap (λ cs. length (map encode_utf8_all (cut (is_grapheme_break true) [] cs []))) (chars-IsAscii (b ∷ []) ascii)
    ∙ ap (λ ps. length (map encode_utf8_all ps)) (attach-nil _ (b ∷ []))

-- each character of a plain text is a cluster
pub plain_clusters : (text : List ℕ) → is_plain text ≡ true → length (clusters text) ≡ length text
plain_clusters [] e = ap length clusters-nil
plain_clusters (b ∷ []) e = one_cluster b (plain_ascii (b ∷ []) e)
plain_clusters (b ∷ c ∷ bs) e =
    let parts = plain_parts b (c ∷ bs) e in
    let first = ordinary b parts.0 in
    let next = ordinary c (plain_parts c bs parts.1).0 in
    let alone = IsAscii-cons b [] first.0 IsAscii-nil in
    let apart = apart-closed (b ∷ []) (c ∷ bs) (IsUtf8-from_ascii (b ∷ []) alone)
    (omega (arith, ap length (chars-IsAscii (b ∷ []) alone)))
    (closed_by_last (chars (b ∷ [])) [] (ap last_closes (chars-IsAscii (b ∷ []) alone) ∙ ascii_closes b first.0 first.1))
    (ap first_opens (chars-IsAscii (c ∷ bs) (plain_ascii (c ∷ bs) parts.1)) ∙ ascii_opens c next.0) in
    let count = ap length apart ∙ length-append (clusters (b ∷ [])) (clusters (c ∷ bs)) in
    let whole : length (clusters (b ∷ c ∷ bs)) ≡ length (clusters (b ∷ [])) + length (clusters (c ∷ bs)) = count in
    omega (arith, whole, one_cluster b alone, plain_clusters (c ∷ bs) parts.1)
