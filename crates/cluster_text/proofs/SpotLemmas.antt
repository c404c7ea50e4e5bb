-- How scalars of a text in parts give way to others.
use Rattle.std.proofs.Common.{◌≡◌, ◌⊎◌, ℕ, zero, suc, ◌+◌, ◌-◌, ◌<◌, ◌≤◌, inl, inr, true, List, [], ◌∷◌, ◌++◌, length, take, drop, get_or, refl, sym, ap, ap₂, ◌∙◌, append_assoc}
use Rattle.std.proofs.Common.{append-nil, length-append, length-drop, take_at, drop_at, drop-drop, arith}
use Rattle.std.proofs.Math.Seq.{take-append-add}
use Rattle.std.proofs.lemmas.Bool.{cases_lt}
use Rattle.std.proofs.lemmas.List.{take-append-drop, take-append-le, drop-append-le, drop_all}
use Rattle.std.proofs.lemmas.Str.{chars-append, encodes-append, encodes-chars, IsUtf8-append, IsUtf8-string_bytes}
use Rattle.std.specs.Prelude.{encode_utf8_all, string_bytes}
use Rattle.std.specs.List.{splice}
use Rattle.std.specs.Str.{IsUtf8, chars}
use Rattle.cluster_text.specs.Boundaries.{first_opens, is_closed, last_closes, stands_alone}
use Rattle.cluster_text.specs.Parts.{IsGathered, IsSpot, scalar_count, whole}
use Rattle.cluster_text.specs.Trees.{IsAt}
use Rattle.cluster_text.specs.declared.part.Part.{Part}
use Rattle.cluster_text.proofs.BoundaryLemmas.{closed_by_last}
use Rattle.cluster_text.proofs.PartLemmas.{chars-whole, chars-first, scalar_count-append, scalar_count-first, scalar_count-none, whole-append, whole-utf8}
use Rattle.cluster_text.proofs.TextLemmas.{alone, back_chars, first_opens-append, first_opens-take, front_chars, front_utf8, is_alone, last_closes-append, last_closes-drop}

-- ---- the text around a border

get_at : (xs : List Part) (x : Part) (ys : List Part) (d : Part) → get_or (xs ++ x ∷ ys) (length xs) d ≡ x
get_at [] x ys d = refl
get_at (z ∷ xs) x ys d = get_at xs x ys d

module _ (parts : List Part) (at index within : ℕ) (spot : IsSpot parts at index within) where
  pub spot-index : index < length parts
  spot-index = omega (arith, spot.index_is, ap length spot.parts_are, length-append spot.front (spot.here ∷ spot.back))

  pub spot-here : (d : Part) → get_or parts index d ≡ spot.here
  spot-here d = ap₂ (λ (ps : List Part) (k : ℕ). get_or ps k d) spot.parts_are spot.index_is ∙ get_at spot.front spot.here spot.back d

  pub spot-front : take index parts ≡ spot.front
  spot-front = ap (take index) spot.parts_are ∙ take_at spot.front (spot.here ∷ spot.back) index (sym spot.index_is)

  pub spot-back : drop (index + 1) parts ≡ spot.back
  spot-back =
      ap (drop (index + 1)) (spot.parts_are ∙ sym (append_assoc spot.front (spot.here ∷ []) spot.back))
      ∙ drop_at (spot.front ++ spot.here ∷ []) spot.back (index + 1) (length-append spot.front (spot.here ∷ []) ∙ omega (arith, spot.index_is))

  pub spot-within : at < scalar_count parts
  spot-within =
      let all = ap scalar_count spot.parts_are ∙ scalar_count-append spot.front (spot.here ∷ spot.back) in
      omega (arith, all, scalar_count-first spot.here spot.back, spot.place, spot.fits)

  spot-chars : chars (whole parts) ≡ chars (whole spot.front) ++ (chars (string_bytes spot.here.text) ++ chars (whole spot.back))
  spot-chars =
      ap (λ (ps : List Part). chars (whole ps)) spot.parts_are ∙ chars-whole spot.front (spot.here ∷ spot.back)
      ∙ ap (λ cs. chars (whole spot.front) ++ cs) (chars-first spot.here spot.back)

  -- what stands up to the place, it included
  pub spot-taken : encode_utf8_all (take (at + 1) (chars (whole parts))) ≡ whole spot.front ++ encode_utf8_all (take (within + 1) (chars (string_bytes spot.here.text)))
  spot-taken =
      let here = chars (string_bytes spot.here.text) in
      let front = chars (whole spot.front) in
      let n : at + 1 ≡ length front + (within + 1) = omega (arith, spot.place) in
      let fits : within + 1 ≤ length here = omega (arith, spot.fits) in
      ap encode_utf8_all
      (ap (λ k. take k (chars (whole parts))) n ∙ ap (take (length front + (within + 1))) spot-chars
      ∙ take-append-add front (here ++ chars (whole spot.back)) (within + 1) ∙ ap (λ cs. front ++ cs) (take-append-le (within + 1) here (chars (whole spot.back)) fits))
      ∙ encodes-append front (take (within + 1) here)
      ∙ ap (λ t. t ++ encode_utf8_all (take (within + 1) here)) (encodes-chars (whole spot.front) (whole-utf8 spot.front))

  -- what stands from the place on
  pub spot-left : encode_utf8_all (drop at (chars (whole parts))) ≡ encode_utf8_all (drop within (chars (string_bytes spot.here.text))) ++ whole spot.back
  spot-left =
      let here = chars (string_bytes spot.here.text) in
      let front = chars (whole spot.front) in
      let n : at ≡ length front + within = omega (arith, spot.place) in
      let fits : within ≤ length here = omega (arith, spot.fits) in
      let rest = here ++ chars (whole spot.back) in
      ap encode_utf8_all
      (ap (λ k. drop k (chars (whole parts))) n ∙ ap (drop (length front + within)) spot-chars
      ∙ sym (drop-drop within (length front) (front ++ rest)) ∙ ap (drop within) (drop_at front rest (length front) refl)
      ∙ drop-append-le within here (chars (whole spot.back)) fits)
      ∙ encodes-append (drop within here) (chars (whole spot.back))
      ∙ ap (λ t. encode_utf8_all (drop within here) ++ t) (encodes-chars (whole spot.back) (whole-utf8 spot.back))

scalar_count-take : (i j : ℕ) (parts : List Part) → i ≤ j → scalar_count (take i parts) ≤ scalar_count (take j parts)
scalar_count-take zero j parts le = omega (arith, scalar_count-none)
scalar_count-take (suc i) zero parts le = absurd (omega arith)
scalar_count-take (suc i) (suc j) [] le = omega arith
scalar_count-take (suc i) (suc j) (part ∷ parts) le =
    omega (arith, scalar_count-first part (take i parts), scalar_count-first part (take j parts), scalar_count-take i j parts (omega arith))

-- an earlier scalar stands in no later part
pub spots_rise : (parts : List Part) (at end i j m n : ℕ) → IsSpot parts at i m → IsSpot parts end j n → at ≤ end → i < j + 1
spots_rise parts at end i j m n first last le =
    elim (cases_lt i (j + 1)) [
      | inl lt ↦ lt
      | inr ge ↦
          let here = ap scalar_count (spot-front parts at i m first) in
          let there : scalar_count (take (j + 1) parts) ≡ scalar_count last.front + length (chars (string_bytes last.here.text)) =
          ap (λ (ps : List Part). scalar_count (take (j + 1) ps)) (last.parts_are ∙ sym (append_assoc last.front (last.here ∷ []) last.back))
          ∙ ap scalar_count (take_at (last.front ++ last.here ∷ []) last.back (j + 1) (length-append last.front (last.here ∷ []) ∙ omega (arith, last.index_is)))
          ∙ scalar_count-append last.front (last.here ∷ []) ∙ omega (arith, scalar_count-first last.here [], scalar_count-none) in
          absurd (omega (arith, here, there, scalar_count-take (j + 1) i parts ge, first.place, last.place, last.fits, le))
    ]

-- the part at the index of a spot is the one of the spot
pub at_spot : (parts : List Part) (at index within : ℕ) (spot : IsSpot parts at index within) (part : Part) → IsAt parts index part → part ≡ spot.here
at_spot parts at index within spot part here =
    sym (ap₂ (λ (ps : List Part) (k : ℕ). get_or ps k part) here.parts_are here.index_is ∙ get_at here.front part here.back part)
    ∙ spot-here parts at index within spot part

-- ---- a text that takes the place of what stands between two places, and goes on with the parts behind the last one

module _ (parts : List Part) (at end i j m n : ℕ) (one : IsSpot parts at i m) (two : IsSpot parts end j n) (first last : Part) (first_at : IsAt parts i first)
    (last_at : IsAt parts j last)
    (new text : List ℕ) (utf8 : IsUtf8 new) (behind : ℕ)
    (gathered : IsGathered parts (encode_utf8_all (take (m + 1) (chars (string_bytes first.text))) ++ (new ++ encode_utf8_all (drop n (chars (string_bytes last.text))))) text
    (j + 1) behind) where
  abbrev pub front : List ℕ
  front = encode_utf8_all (take (m + 1) (chars (string_bytes first.text)))

  abbrev pub back : List ℕ
  back = encode_utf8_all (drop n (chars (string_bytes last.text)))

  abbrev pub others : List Part
  others = drop (j + 1) parts

  taken_is : encode_utf8_all (take (at + 1) (chars (whole parts))) ≡ whole one.front ++ front
  taken_is =
      spot-taken parts at i m one
      ∙ ap (λ (p : Part). whole one.front ++ encode_utf8_all (take (m + 1) (chars (string_bytes p.text)))) (sym (at_spot parts at i m one first first_at))

  left_is : encode_utf8_all (drop end (chars (whole parts))) ≡ back ++ whole others
  left_is =
      spot-left parts end j n two
      ∙ ap₂ (λ (p : Part) (ps : List Part). encode_utf8_all (drop n (chars (string_bytes p.text))) ++ whole ps) (sym (at_spot parts end j n two last last_at))
      (sym (spot-back parts end j n two))

  -- the text and what stands after it
  rest_is : text ++ whole (drop behind parts) ≡ front ++ (new ++ (back ++ whole others))
  rest_is =
      let k = behind - (j + 1) in
      let end_is : behind ≡ j + 1 + k = omega (arith, gathered.order) in
      let further : drop behind parts ≡ drop k others = ap (λ i. drop i parts) end_is ∙ sym (drop-drop k (j + 1) parts) in
      let both : whole (take k others) ++ whole (drop k others) ≡ whole others = sym (whole-append (take k others) (drop k others)) ∙ ap whole (take-append-drop k others) in
      ap₂ (λ (t : List ℕ) (ps : List Part). t ++ whole ps) gathered.text_is further
      ∙ append_assoc (front ++ (new ++ back)) (whole (take k others)) (whole (drop k others))
      ∙ ap (λ t. (front ++ (new ++ back)) ++ t) both
      ∙ append_assoc front (new ++ back) (whole others) ∙ ap (λ t. front ++ t) (append_assoc new back (whole others))

  pub replaced_is : (cut : List Part) → whole cut ≡ text → whole (splice parts i behind cut) ≡ encode_utf8_all (splice (chars (whole parts)) (at + 1) end (chars new))
  replaced_is cut cut_is =
      ap (λ (xs : List Part). whole (xs ++ (cut ++ drop behind parts))) (spot-front parts at i m one)
      ∙ whole-append one.front (cut ++ drop behind parts)
      ∙ ap (λ t. whole one.front ++ t) (whole-append cut (drop behind parts) ∙ ap (λ t. t ++ whole (drop behind parts)) cut_is ∙ rest_is)
      ∙ sym (append_assoc (whole one.front) front (new ++ (back ++ whole others)))
      ∙ sym (encodes-append (take (at + 1) (chars (whole parts))) (chars new ++ drop end (chars (whole parts)))
      ∙ ap₂ ◌++◌ taken_is (encodes-append (chars new) (drop end (chars (whole parts))) ∙ ap₂ ◌++◌ (encodes-chars new utf8) left_is))

  front_is : IsUtf8 front
  front_is = front_utf8 (string_bytes first.text) (IsUtf8-string_bytes first.text) (m + 1)

  text_opens : first_opens (chars text) ≡ true
  text_opens =
      let rest = (new ++ back) ++ whole (take (behind - (j + 1)) others) in
      let kept = take (m + 1) (chars (string_bytes first.text)) in
      ap (λ t. first_opens (chars t)) (gathered.text_is ∙ append_assoc front (new ++ back) (whole (take (behind - (j + 1)) others)))
      ∙ ap first_opens (chars-append front rest front_is ∙ ap (λ cs. cs ++ chars rest) (front_chars (string_bytes first.text) (IsUtf8-string_bytes first.text) (m + 1)))
      ∙ first_opens-append kept (chars rest) (first_opens-take (m + 1) (chars (string_bytes first.text)) (omega arith) (alone (string_bytes first.text) first.alone).0)

  -- where no part is left, the text ends as all of them do
  text_closes : behind ≡ length parts → last_closes (chars (whole parts)) ≡ true → last_closes (chars text) ≡ true
  text_closes all closes =
      let left = drop end (chars (whole parts)) in
      let none : drop behind parts ≡ [] = drop_all behind parts (omega (arith, all)) in
      let fits : end < length (chars (whole parts)) = spot-within parts end j n two in
      let text_is : text ≡ (front ++ new) ++ encode_utf8_all left =
      sym (append-nil text) ∙ ap (λ (ps : List Part). text ++ whole ps) (sym none) ∙ rest_is
      ∙ sym (append_assoc front new (back ++ whole others)) ∙ ap (λ t. (front ++ new) ++ t) (sym left_is) in
      let chars_are : chars text ≡ chars (front ++ new) ++ left =
      ap chars text_is ∙ chars-append (front ++ new) (encode_utf8_all left) (IsUtf8-append front new front_is utf8)
      ∙ ap (λ cs. chars (front ++ new) ++ cs) (back_chars (whole parts) (whole-utf8 parts) end) in
      ap last_closes chars_are ∙ last_closes-append (chars (front ++ new)) left (omega (arith, fits, length-drop end (chars (whole parts))))
      ∙ last_closes-drop end (chars (whole parts)) fits ∙ closes

  pub text_alone : (is_closed (chars text) ≡ true) ⊎ (behind ≡ length parts) → last_closes (chars (whole parts)) ≡ true → stands_alone text ≡ true
  text_alone ends closes =
      is_alone text text_opens (elim ends [ inl closed ↦ closed | inr all ↦ closed_by_last (chars text) [] (text_closes all closes) ])
