-- A text between two NULs.
use Rattle.std.proofs.Common.{◌≡◌, ℕ, zero, suc, ◌+◌, ◌-◌, ◌<◌, ◌≤◌, true, false, inl, inr, List, [], ◌∷◌, ◌++◌, map, length, take, drop, refl, sym, ap, ap₂, subst, ◌∙◌}
use Rattle.std.proofs.Common.{append_assoc, length-append, length-take, length-drop, take_at, add-one, arith}
use Rattle.std.proofs.Math.Seq.{take-add}
use Rattle.std.proofs.lemmas.Bool.{cases_lt, false≢true}
use Rattle.std.proofs.lemmas.List.{map-append, take-append-le, drop-append-le}
use Rattle.std.proofs.lemmas.List.Sums.{sum_by-cons, sum_by-take-le}
use Rattle.std.proofs.lemmas.Str.{chars-nil, chars-append, chars-encodes, chars_past_char, encode_ascii, encodes-append, scalars-chars, IsUtf8-append, IsUtf8-from_ascii}
use Rattle.std.proofs.lemmas.Str.{is_utf8-from_IsUtf8, IsUtf8-from_is_utf8}
use Rattle.std.specs.Prelude.{encode_utf8_all}
use Rattle.std.specs.List.{splice}
use Rattle.std.specs.Str.{IsAscii, IsUtf8, all_scalars, chars}
use Rattle.unicode_segmentation.specs.Grapheme.{is_grapheme_break}
use Rattle.unicode_segmentation.specs.Segments.{cut, segments}
use Rattle.cluster_text.specs.Boundaries.{first_opens, last_closes, stands_alone}
use Rattle.cluster_text.specs.Clusters.{clusters, scalars, span}
use Rattle.cluster_text.specs.Parts.{between_nuls, inside, IsIndex, scalar_count, whole}
use Rattle.cluster_text.specs.declared.part.Part.{Part}
use Rattle.cluster_text.proofs.BoundaryLemmas.{closed_by_last, cut-enclosed, nul_closes, nul_opens}
use Rattle.cluster_text.proofs.TextLemmas.{is_alone, last_closes-append, scalars-append, scalars-clusters, scalars-drop, scalars-take}
use Rattle.cluster_text.proofs.TreeLemmas.{scalars-append as sums-append}

nul_ascii : IsAscii (0 ∷ [])
nul_ascii zero = omega arith
nul_ascii (suc i) = omega arith

pub nul_utf8 : IsUtf8 (0 ∷ [])
nul_utf8 = IsUtf8-from_ascii (0 ∷ []) nul_ascii

nul_chars : chars (0 ∷ []) ≡ 0 ∷ []
nul_chars = chars_past_char (0 ∷ []) [] 0 nul_utf8 (sym (ap (λ t. t ++ []) (encode_ascii 0 (omega arith)))) ∙ ap (λ cs. 0 ∷ cs) chars-nil

module _ (text : List ℕ) (utf8 : IsUtf8 text) where
  pub enclosed_utf8 : IsUtf8 (between_nuls text)
  enclosed_utf8 = IsUtf8-append (0 ∷ []) (text ++ 0 ∷ []) nul_utf8 (IsUtf8-append text (0 ∷ []) utf8 nul_utf8)

  pub enclosed_chars : chars (between_nuls text) ≡ 0 ∷ (chars text ++ 0 ∷ [])
  enclosed_chars =
      chars-append (0 ∷ []) (text ++ 0 ∷ []) nul_utf8
      ∙ ap₂ ◌++◌ nul_chars (chars-append text (0 ∷ []) utf8 ∙ ap (λ cs. chars text ++ cs) nul_chars)

  pub enclosed_closes : last_closes (chars (between_nuls text)) ≡ true
  enclosed_closes = ap last_closes enclosed_chars ∙ last_closes-append (0 ∷ chars text) (0 ∷ []) (omega arith) ∙ nul_closes

  pub enclosed_alone : stands_alone (between_nuls text) ≡ true
  enclosed_alone =
      is_alone (between_nuls text) (ap first_opens enclosed_chars ∙ nul_opens) (closed_by_last (chars (between_nuls text)) [] enclosed_closes)

  pub enclosed_clusters : clusters (between_nuls text) ≡ (0 ∷ []) ∷ (clusters text ++ (0 ∷ []) ∷ [])
  unfolding segments
  enclosed_clusters =
      let pieces = cut (is_grapheme_break true) [] (chars text) [] in
      let nul : encode_utf8_all (0 ∷ []) ≡ 0 ∷ [] = ap (λ t. t ++ []) (encode_ascii 0 (omega arith)) in
      ap (λ cs. map encode_utf8_all (cut (is_grapheme_break true) [] cs [])) enclosed_chars
      ∙ ap (map encode_utf8_all) (cut-enclosed (chars text))
      ∙ ap (λ ps. encode_utf8_all (0 ∷ []) ∷ ps) (map-append encode_utf8_all pieces ((0 ∷ []) ∷ []))
      ∙ ap (λ t. t ∷ (map encode_utf8_all pieces ++ t ∷ [])) nul

pub inside_is : (text : List ℕ) → inside (between_nuls text) ≡ text
inside_is text = take_at text (0 ∷ []) _ (omega (arith, length-append text (0 ∷ [])))

-- parts of an enclosed text are an index
pub index_is : (parts : List Part) (count : ℕ) (text : List ℕ) → whole parts ≡ between_nuls text → IsUtf8 text → count ≡ scalar_count parts → IsIndex parts count
index_is parts count text is utf8 count_is =
    let inner : inside (whole parts) ≡ text = ap inside is ∙ inside_is text in
    record { text_is = is ∙ ap between_nuls (sym inner); utf8 = rw inner (is_utf8-from_IsUtf8 text utf8); count_is = count_is }

module _ (parts : List Part) (count : ℕ) (index : IsIndex parts count) where
  pub index_utf8 : IsUtf8 (inside (whole parts))
  index_utf8 = IsUtf8-from_is_utf8 (inside (whole parts)) index.utf8

  pub index_count : count ≡ length (chars (inside (whole parts))) + 2
  index_count =
      let text = inside (whole parts) in
      let all = ap (λ t. length (chars t)) index.text_is ∙ ap length (enclosed_chars text index_utf8) in
      omega (arith, index.count_is, all, length-append (chars text) (0 ∷ []))

  pub index_closes : last_closes (chars (whole parts)) ≡ true
  index_closes = ap (λ t. last_closes (chars t)) index.text_is ∙ enclosed_closes (inside (whole parts)) index_utf8

  pub index_clusters : clusters (whole parts) ≡ (0 ∷ []) ∷ (clusters (inside (whole parts)) ++ (0 ∷ []) ∷ [])
  index_clusters = ap clusters index.text_is ∙ enclosed_clusters (inside (whole parts)) index_utf8

  pub index_len : length (clusters (whole parts)) ≡ length (clusters (inside (whole parts))) + 2
  index_len = ap length index_clusters ∙ omega (arith, length-append (clusters (inside (whole parts))) ((0 ∷ []) ∷ []))

  -- how many scalars stand in front of a cluster, the first NUL counted
  pub index_place : (at : ℕ) → at ≤ length (clusters (inside (whole parts)))
      → scalars (take (at + 1) (clusters (whole parts))) ≡ 1 + scalars (take at (clusters (inside (whole parts))))
  index_place at le =
      let text = clusters (inside (whole parts)) in
      let one : length (chars (0 ∷ [])) ≡ 1 = ap length nul_chars in
      ap (λ cs. scalars (take (at + 1) cs)) index_clusters
      ∙ ap (λ k. scalars (take k ((0 ∷ []) ∷ (text ++ (0 ∷ []) ∷ [])))) (add-one at)
      ∙ sum_by-cons (λ (cluster : List ℕ). length (chars cluster)) (0 ∷ []) (take at (text ++ (0 ∷ []) ∷ []))
      ∙ ap₂ ◌+◌ one (ap scalars (take-append-le at text ((0 ∷ []) ∷ []) le))

pub span_places : (cs : List (List ℕ)) (at n : ℕ) → span cs at n ≡ (scalars (take at cs), scalars (take (at + n) cs) - scalars (take at cs))
span_places cs at n =
    let parts = ap scalars (take-add at n cs) ∙ sums-append (take at cs) (take n (drop at cs)) in
    let is : scalars (take n (drop at cs)) ≡ scalars (take (at + n) cs) - scalars (take at cs) = omega (arith, parts) in
    ap (λ len. (scalars (take at cs), len)) is

pub places_rise : (cs : List (List ℕ)) (at n : ℕ) → scalars (take at cs) ≤ scalars (take (at + n) cs)
places_rise cs at n = omega (arith, ap scalars (take-add at n cs) ∙ sums-append (take at cs) (take n (drop at cs)))

pub place_within : (text : List ℕ) (at : ℕ) → IsUtf8 text → scalars (take at (clusters text)) ≤ length (chars text)
place_within text at utf8 = omega (arith, sum_by-take-le (λ (cluster : List ℕ). length (chars cluster)) (clusters text) at, scalars-clusters text utf8)

-- ---- a splice

module _ (cs new : List ℕ) (at n : ℕ) (fits : at + n ≤ length cs) where
  pub splice_enclosed : splice (0 ∷ (cs ++ 0 ∷ [])) (at + 1) (at + 1 + n) new ≡ 0 ∷ (splice cs at (at + n) new ++ 0 ∷ [])
  splice_enclosed =
      let end : at + 1 + n ≡ suc (at + n) = omega arith in
      let front : take (at + 1) (0 ∷ (cs ++ 0 ∷ [])) ≡ 0 ∷ take at cs =
      ap (λ k. take k (0 ∷ (cs ++ 0 ∷ []))) (add-one at) ∙ ap (λ ds. 0 ∷ ds) (take-append-le at cs (0 ∷ []) (omega arith)) in
      let back : drop (at + 1 + n) (0 ∷ (cs ++ 0 ∷ [])) ≡ drop (at + n) cs ++ 0 ∷ [] =
      ap (λ k. drop k (0 ∷ (cs ++ 0 ∷ []))) end ∙ drop-append-le (at + n) cs (0 ∷ []) fits in
      ap₂ (λ x y. x ++ (new ++ y)) front back
      ∙ ap (λ ds. 0 ∷ (take at cs ++ ds)) (sym (append_assoc new (drop (at + n) cs) (0 ∷ [])))
      ∙ ap (λ ds. 0 ∷ ds) (sym (append_assoc (take at cs) (new ++ drop (at + n) cs) (0 ∷ [])))

  pub splice_len : length (splice cs at (at + n) new) + n ≡ length cs + length new
  splice_len =
      omega (arith, length-append (take at cs) (new ++ drop (at + n) cs), length-append new (drop (at + n) cs), length-take at cs, length-drop (at + n) cs, fits)

  pub splice_scalars : all_scalars cs ≡ true → all_scalars new ≡ true → all_scalars (splice cs at (at + n) new) ≡ true
  splice_scalars e f = scalars-append (take at cs) (new ++ drop (at + n) cs) (scalars-take at cs e) (scalars-append new (drop (at + n) cs) f (scalars-drop (at + n) cs e))

encode_enclosed : (cs : List ℕ) → encode_utf8_all (0 ∷ (cs ++ 0 ∷ [])) ≡ between_nuls (encode_utf8_all cs)
encode_enclosed cs =
    let nul = encode_ascii 0 (omega arith) in
    ap₂ ◌++◌ nul (encodes-append cs (0 ∷ []) ∙ ap (λ t. encode_utf8_all cs ++ (t ++ [])) nul)

module _ (parts changed : List Part) (count : ℕ) (index : IsIndex parts count) (new : List ℕ) (utf8 : IsUtf8 new) (at n : ℕ) (fits : at + n ≤ length (chars (inside (whole parts))))
    (is : whole changed ≡ encode_utf8_all (splice (chars (whole parts)) (at + 1) (at + 1 + n) (chars new))) where
  abbrev pub text : List ℕ
  text = inside (whole parts)

  abbrev pub spliced : List ℕ
  spliced = splice (chars text) at (at + n) (chars new)

  changed_is : whole changed ≡ between_nuls (encode_utf8_all spliced)
  changed_is =
      is ∙ ap (λ t. encode_utf8_all (splice (chars t) (at + 1) (at + 1 + n) (chars new))) index.text_is
      ∙ ap (λ cs. encode_utf8_all (splice cs (at + 1) (at + 1 + n) (chars new))) (enclosed_chars text (index_utf8 parts count index))
      ∙ ap encode_utf8_all (splice_enclosed (chars text) (chars new) at n fits)
      ∙ encode_enclosed spliced

  all_fine : all_scalars spliced ≡ true
  all_fine = splice_scalars (chars text) (chars new) at n fits (scalars-chars text (index_utf8 parts count index)) (scalars-chars new utf8)

  spliced_utf8 : IsUtf8 (encode_utf8_all spliced)
  spliced_utf8 = (spliced, (all_fine, refl))

  pub changed_inside : inside (whole changed) ≡ encode_utf8_all spliced
  changed_inside = ap inside changed_is ∙ inside_is (encode_utf8_all spliced)

  pub changed_index : (more : ℕ) → more ≡ count - n + length (chars new) → IsIndex changed more
  changed_index more more_is =
      let all = ap (λ t. length (chars t)) changed_is ∙ ap length (enclosed_chars (encode_utf8_all spliced) spliced_utf8) in
      let same = ap length (chars-encodes spliced all_fine) in
      index_is changed more (encode_utf8_all spliced) changed_is spliced_utf8
      (omega (
        arith,
        more_is,
        all,
        same,
        length-append (chars (encode_utf8_all spliced)) (0 ∷ []),
        splice_len (chars text) (chars new) at n fits,
        index_count parts count index,
        fits,
      ))

-- ---- a span

pub not_less : (a b : ℕ) → (a ≤ b → true ≡ false) → b < a
not_less a b never = elim (cases_lt b a) [ inl lt ↦ lt | inr ge ↦ absurd (false≢true (sym (never ge))) ]

module _ (parts s : List Part) (count : ℕ) (text : List ℕ) (index : IsIndex parts count) (view : inside (whole parts) ≡ text) (same : s ≡ parts) where
  pub seen_utf8 : IsUtf8 text
  seen_utf8 = subst IsUtf8 view (index_utf8 parts count index)

  pub seen_count : scalar_count s ≡ count
  seen_count = ap scalar_count same ∙ sym index.count_is

  pub seen_len : length (clusters (whole s)) ≡ length (clusters text) + 2
  seen_len =
      ap (λ (ps : List Part). length (clusters (whole ps))) same ∙ index_len parts count index ∙ ap (λ (t : List ℕ). length (clusters t) + 2) view

  seen_place : (at : ℕ) → at ≤ length (clusters text) → scalars (take (at + 1) (clusters (whole s))) ≡ 1 + scalars (take at (clusters text))
  seen_place at le =
      let fits : at ≤ length (clusters (inside (whole parts))) = omega (arith, le, ap (λ (t : List ℕ). length (clusters t)) view) in
      ap (λ (ps : List Part). scalars (take (at + 1) (clusters (whole ps)))) same ∙ index_place parts count index at fits
      ∙ ap (λ (t : List ℕ). 1 + scalars (take at (clusters t))) view

  module _ (start end at n : ℕ) (start_is : start ≡ scalars (take (at + 1) (clusters (whole s)))) (end_is : end ≡ scalars (take (at + 1 + n) (clusters (whole s))))
      (fits : at + n ≤ length (clusters text)) where
    starts : start ≡ 1 + scalars (take at (clusters text))
    starts = start_is ∙ seen_place at (omega (arith, fits))

    ends : end ≡ 1 + scalars (take (at + n) (clusters text))
    ends =
        let k : at + 1 + n ≡ at + n + 1 = omega arith in
        end_is ∙ ap (λ i. scalars (take i (clusters (whole s)))) k ∙ seen_place (at + n) fits

    pub span_in_order : (1 ≤ start) × (start ≤ end) × ((start - 1) + (end - start) ≤ length (chars text))
    span_in_order =
        let rise = places_rise (clusters text) at n in
        let within = place_within text (at + n) seen_utf8 in
        (omega (arith, starts), omega (arith, starts, ends, rise), omega (arith, starts, ends, rise, within))

    pub span_is : ◌≡◌ {A = ℕ × ℕ} (start - 1, end - start) (span (clusters text) at n)
    span_is =
        let first : start - 1 ≡ scalars (take at (clusters text)) = omega (arith, starts) in
        let more : end - start ≡ scalars (take (at + n) (clusters text)) - scalars (take at (clusters text)) = omega (arith, starts, ends) in
        ap₂ (λ (a b : ℕ). (a, b)) first more ∙ sym (span_places (clusters text) at n)
