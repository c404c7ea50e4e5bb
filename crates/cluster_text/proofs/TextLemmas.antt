-- Texts that stand alone, and their characters.
use Rattle.std.proofs.Common.{◌≡◌, ℕ, zero, suc, ◌+◌, ◌-◌, ◌<◌, ◌≤◌, Bool, true, false, inl, inr, List, [], ◌∷◌, ◌++◌, map, length, take, drop, refl, sym, ap, ap₂, subst, ◌∙◌}
use Rattle.std.proofs.Common.{append_assoc, append-nil, length-append, length-drop, add-one, take_at, drop_at, take_all, arith}
use Rattle.std.proofs.lemmas.Bool.{and_parts}
use Rattle.std.proofs.lemmas.List.{drop_all, take-append-drop}
use Rattle.std.proofs.lemmas.List.Sums.{sum_by-cons}
use Rattle.std.proofs.lemmas.Str.{chars-nil, chars-encodes, chars_past_char, encodes-append, encodes-chars, scalars-chars, IsUtf8-past_char, IsCharBoundary-at_seam}
use Rattle.std.specs.Prelude.{encode_utf8, encode_utf8_all}
use Rattle.std.specs.List.{concat}
use Rattle.std.specs.Str.{IsUtf8, IsCharBoundary, all_scalars, chars}
use Rattle.unicode_segmentation.specs.Grapheme.{is_grapheme_break}
use Rattle.unicode_segmentation.specs.Segments.{Rule, cut, segments}
use Rattle.cluster_text.specs.Boundaries.{opens, first_opens, is_closed, last_closes, stands_alone}
use Rattle.cluster_text.specs.Clusters.{clusters, scalars}
use Rattle.cluster_text.specs.Cuts.{IsCut, IsPassed, IsWhole, SplitsAt}
use Rattle.cluster_text.specs.Endings.{IsEnding, ends_cluster, ending_with}
use Rattle.cluster_text.specs.declared.ending.Ending.{Ending}
use Rattle.cluster_text.proofs.BoundaryLemmas.{closed-behind}
use Rattle.cluster_text.proofs.CutLemmas.{attach}
use Rattle.cluster_text.proofs.EndingLemmas.{ending-next}

-- ---- scalars

pub scalars-take : (n : ℕ) (cs : List ℕ) → all_scalars cs ≡ true → all_scalars (take n cs) ≡ true
scalars-take zero cs e = refl
scalars-take (suc n) [] e = refl
scalars-take (suc n) (c ∷ cs) e = let parts = and_parts _ (all_scalars cs) e in rw (parts.0, scalars-take n cs parts.1) refl

pub scalars-drop : (n : ℕ) (cs : List ℕ) → all_scalars cs ≡ true → all_scalars (drop n cs) ≡ true
scalars-drop zero cs e = e
scalars-drop (suc n) [] e = refl
scalars-drop (suc n) (c ∷ cs) e = scalars-drop n cs (and_parts _ (all_scalars cs) e).1

pub scalars-append : (cs ds : List ℕ) → all_scalars cs ≡ true → all_scalars ds ≡ true → all_scalars (cs ++ ds) ≡ true
scalars-append [] ds e f = f
scalars-append (c ∷ cs) ds e f = let parts = and_parts _ (all_scalars cs) e in rw (parts.0, scalars-append cs ds parts.1 f) refl

module _ (text : List ℕ) (utf8 : IsUtf8 text) (n : ℕ) where
  pub front_chars : chars (encode_utf8_all (take n (chars text))) ≡ take n (chars text)
  front_chars = chars-encodes (take n (chars text)) (scalars-take n (chars text) (scalars-chars text utf8))

  pub back_chars : chars (encode_utf8_all (drop n (chars text))) ≡ drop n (chars text)
  back_chars = chars-encodes (drop n (chars text)) (scalars-drop n (chars text) (scalars-chars text utf8))

  pub front_utf8 : IsUtf8 (encode_utf8_all (take n (chars text)))
  front_utf8 = (take n (chars text), (scalars-take n (chars text) (scalars-chars text utf8), refl))

  pub back_utf8 : IsUtf8 (encode_utf8_all (drop n (chars text)))
  back_utf8 = (drop n (chars text), (scalars-drop n (chars text) (scalars-chars text utf8), refl))

-- ---- the clusters of a text have its scalars together

-- pieces of characters that UTF-8 encodes
abbrev pub AllScalars : List (List ℕ) → Type 0
AllScalars [] = Unit {0}
AllScalars (p ∷ ps) = (all_scalars p ≡ true) × AllScalars ps

attach_scalars : (b : Bool) (c : ℕ) (ps : List (List ℕ)) → all_scalars (c ∷ []) ≡ true → AllScalars ps → AllScalars (attach b (c ∷ []) ps)
attach_scalars true c ps h all = (h, all)
attach_scalars false c [] h all = (h, tt)
attach_scalars false c (p ∷ ps) h all = (scalars-append (c ∷ []) p h all.0, all.1)

pub cut_scalars : (rule : Rule) (before cs after : List ℕ) → all_scalars cs ≡ true → AllScalars (cut rule before cs after)
unfolding cut
cut_scalars rule before [] after h = tt
cut_scalars rule before (c ∷ cs) after h =
    let parts = and_parts _ (all_scalars cs) h in
    attach_scalars (rule (c ∷ before) (cs ++ after)) c _ (rw parts.0 refl) (cut_scalars rule (c ∷ before) cs after parts.1)

concat-attach : (b : Bool) (x : List ℕ) (ps : List (List ℕ)) → concat (attach b x ps) ≡ x ++ concat ps
concat-attach true x ps = refl
concat-attach false x [] = refl
concat-attach false x (p ∷ ps) = append_assoc x p (concat ps)

pub concat-cut : (rule : Rule) (before cs after : List ℕ) → concat (cut rule before cs after) ≡ cs
unfolding cut
concat-cut rule before [] after = refl
concat-cut rule before (c ∷ cs) after =
    concat-attach (rule (c ∷ before) (cs ++ after)) (c ∷ []) _ ∙ ap (λ l. c ∷ l) (concat-cut rule (c ∷ before) cs after)

pub scalars-pieces : (ps : List (List ℕ)) → AllScalars ps → scalars (map encode_utf8_all ps) ≡ length (concat ps)
scalars-pieces [] all = refl
scalars-pieces (p ∷ ps) all =
    sum_by-cons (λ (cluster : List ℕ). length (chars cluster)) (encode_utf8_all p) (map encode_utf8_all ps)
    ∙ ap₂ ◌+◌ (ap length (chars-encodes p all.0)) (scalars-pieces ps all.1)
    ∙ sym (length-append p (concat ps))

pub scalars-clusters : (text : List ℕ) → IsUtf8 text → scalars (clusters text) ≡ length (chars text)
unfolding segments
scalars-clusters text utf8 =
    let pieces = cut (is_grapheme_break true) [] (chars text) [] in
    scalars-pieces pieces (cut_scalars _ [] (chars text) [] (scalars-chars text utf8)) ∙ ap length (concat-cut _ [] (chars text) [])

pub clusters-nil : clusters [] ≡ []
unfolding segments cut
clusters-nil = ap (λ cs. map encode_utf8_all (cut (is_grapheme_break true) [] cs [])) chars-nil

-- ---- texts that stand alone

pub alone : (text : List ℕ) → stands_alone text ≡ true → (first_opens (chars text) ≡ true) × (is_closed (chars text) ≡ true)
alone text e = and_parts (first_opens (chars text)) _ e

pub is_alone : (text : List ℕ) → first_opens (chars text) ≡ true → is_closed (chars text) ≡ true → stands_alone text ≡ true
is_alone text e f = rw (e, f) refl

pub first_opens-append : (xs ys : List ℕ) → first_opens xs ≡ true → first_opens (xs ++ ys) ≡ true
first_opens-append [] ys e = cc
first_opens-append (x ∷ xs) ys e = e

pub first_opens-some : (xs : List ℕ) → first_opens xs ≡ true → 0 < length xs
first_opens-some [] e = cc
first_opens-some (x ∷ xs) e = omega arith

first_opens-front : (xs ys : List ℕ) → 0 < length xs → first_opens (xs ++ ys) ≡ true → first_opens xs ≡ true
first_opens-front [] ys some e = absurd (omega arith)
first_opens-front (x ∷ xs) ys some e = e

pub first_opens-take : (n : ℕ) (xs : List ℕ) → 0 < n → first_opens xs ≡ true → first_opens (take n xs) ≡ true
first_opens-take zero xs some e = absurd (omega arith)
first_opens-take (suc n) [] some e = cc
first_opens-take (suc n) (x ∷ xs) some e = e

pub last_closes-append : (xs ys : List ℕ) → 0 < length ys → last_closes (xs ++ ys) ≡ last_closes ys
last_closes-append [] ys some = refl
last_closes-append (x ∷ []) [] some = absurd (omega arith)
last_closes-append (x ∷ []) (y ∷ ys) some = refl
last_closes-append (x ∷ d ∷ xs) ys some = last_closes-append (d ∷ xs) ys some

pub last_closes-drop : (n : ℕ) (xs : List ℕ) → n < length xs → last_closes (drop n xs) ≡ last_closes xs
last_closes-drop zero xs some = refl
last_closes-drop (suc n) [] some = absurd (omega arith)
last_closes-drop (suc n) (x ∷ []) some = absurd (omega arith)
last_closes-drop (suc n) (x ∷ d ∷ xs) some = last_closes-drop n (d ∷ xs) (omega arith)

-- ---- cuts

pub alone-some : (text : List ℕ) → stands_alone text ≡ true → 0 < length text
alone-some [] e = let none = first_opens-some (chars []) (alone [] e).0 in absurd (omega (arith, none, ap length chars-nil))
alone-some (b ∷ bs) e = omega arith

next_taken : (i : ℕ) (xs : List ℕ) (x : ℕ) (rest : List ℕ) → drop i xs ≡ x ∷ rest → (take (suc i) xs ≡ take i xs ++ x ∷ []) × (drop (suc i) xs ≡ rest)
next_taken zero [] x rest is = cc
next_taken zero (y ∷ xs) x rest is = (cc, cc)
next_taken (suc i) [] x rest is = cc
next_taken (suc i) (y ∷ xs) x rest is = let further = next_taken i xs x rest is in (ap (λ front. y ∷ front) further.0, further.1)

pub splits-none : (text : List ℕ) → IsUtf8 text → SplitsAt text text 0
splits-none text utf8 = record { utf8 = utf8; text_is = refl; rest_is = refl }

pub splits-next : (text rest next : List ℕ) (n c : ℕ) → SplitsAt text rest n → rest ≡ encode_utf8 c ++ next → SplitsAt text next (n + 1)
splits-next text rest next n c splits is =
    let taken = next_taken n (chars text) c (chars next) (sym splits.rest_is ∙ chars_past_char rest next c splits.utf8 is) in
    let one : encode_utf8_all (take (suc n) (chars text)) ≡ encode_utf8_all (take n (chars text)) ++ encode_utf8 c =
    ap encode_utf8_all taken.0 ∙ encodes-append (take n (chars text)) (c ∷ []) ∙ ap (λ t. encode_utf8_all (take n (chars text)) ++ t) (append-nil (encode_utf8 c)) in
    record {
      utf8 = IsUtf8-past_char rest next c splits.utf8 is;
      text_is = rw add-one
          (splits.text_is ∙ ap (λ t. encode_utf8_all (take n (chars text)) ++ t) is
          ∙ sym (append_assoc (encode_utf8_all (take n (chars text))) (encode_utf8 c) next) ∙ ap (λ t. t ++ next) (sym one));
      rest_is = rw add-one (sym taken.1);
    }

pub splits-end : (text rest : List ℕ) (n m : ℕ) → SplitsAt text rest n → rest ≡ [] → n ≤ m → SplitsAt text rest m
splits-end text rest n m splits none le =
    let nothing : drop n (chars text) ≡ [] = sym splits.rest_is ∙ ap chars none ∙ chars-nil in
    let short : length (chars text) ≤ n = omega (arith, ap length nothing, length-drop n (chars text)) in
    let all : take m (chars text) ≡ take n (chars text) = take_all m (chars text) (omega arith) ∙ sym (take_all n (chars text) short) in
    record {
      utf8 = splits.utf8;
      text_is = splits.text_is ∙ ap (λ cs. encode_utf8_all cs ++ rest) (sym all);
      rest_is = splits.rest_is ∙ nothing ∙ sym (drop_all m (chars text) (omega arith));
    }

module _ (text rest : List ℕ) (n : ℕ) (splits : SplitsAt text rest n) where
  pub front-len : length (encode_utf8_all (take n (chars text))) ≡ length text - length rest
  front-len = let sum = ap length splits.text_is ∙ length-append (encode_utf8_all (take n (chars text))) rest in omega (arith, sum)

  pub splits-boundary : IsCharBoundary text (length text - length rest)
  splits-boundary = subst (IsCharBoundary text) front-len (IsCharBoundary-at_seam text (encode_utf8_all (take n (chars text))) rest splits.text_is splits.utf8)

  pub splits-front : take (length text - length rest) text ≡ encode_utf8_all (take n (chars text))
  splits-front = ap (take (length text - length rest)) splits.text_is ∙ take_at (encode_utf8_all (take n (chars text))) rest _ front-len

  pub splits-rest : drop (length text - length rest) text ≡ rest
  splits-rest = ap (drop (length text - length rest)) splits.text_is ∙ drop_at (encode_utf8_all (take n (chars text))) rest _ front-len

  pub splits-back : drop (length text - length rest) text ≡ encode_utf8_all (drop n (chars text))
  splits-back = splits-rest ∙ sym (encodes-chars rest splits.utf8) ∙ ap encode_utf8_all splits.rest_is

pub passed-none : (text : List ℕ) (ending : Ending) → IsUtf8 text → IsEnding [] ending → IsPassed text text ending
passed-none text ending utf8 ends = record { count = 0; splits = splits-none text utf8; ends = ends }

pub passed-next : (text rest next : List ℕ) (ending : Ending) (c : ℕ) → IsPassed text rest ending → rest ≡ encode_utf8 c ++ next → IsPassed text next (ending_with ending c)
passed-next text rest next ending c way is =
    let splits = way.splits in
    let taken = next_taken way.count (chars text) c (chars next) (sym splits.rest_is ∙ chars_past_char rest next c splits.utf8 is) in
    record {
      count = way.count + 1;
      splits = splits-next text rest next way.count c splits is;
      ends = rw (add-one, taken.0) (ending-next (take way.count (chars text)) ending c way.ends);
    }

count_some : (text rest : List ℕ) (n : ℕ) → SplitsAt text rest n → length rest < length text → 0 < n
count_some text rest zero splits less = absurd (omega (arith, ap length splits.text_is))
count_some text rest (suc n) splits less = omega arith

pub cut_at_end : (text rest : List ℕ) (ending : Ending) → IsPassed text rest ending → rest ≡ [] → 0 < length text → IsCut text rest
cut_at_end text rest ending way none some =
    record { count = way.count; splits = way.splits; some = count_some text rest way.count way.splits (omega (arith, ap length none)); boundary = inl none }

pub cut_at_boundary : (text rest next : List ℕ) (ending : Ending) (c : ℕ) → IsPassed text rest ending → length rest < length text → rest ≡ encode_utf8 c ++ next
    → ends_cluster ending ≡ true → opens c ≡ true → IsCut text rest
cut_at_boundary text rest next ending c way less is closed opening =
    record {
      count = way.count;
      splits = way.splits;
      some = count_some text rest way.count way.splits less;
      boundary = inr (sym way.ends.whole_is ∙ closed, rw (chars_past_char rest next c way.splits.utf8 is) opening);
    }

module _ (text rest : List ℕ) (boundary : IsCut text rest) (utf8 : IsUtf8 text) (whole : stands_alone text ≡ true) where
  -- the front stands alone
  pub front_alone : (front : List ℕ) → front ≡ encode_utf8_all (take boundary.count (chars text)) → stands_alone front ≡ true
  front_alone front is =
      let n = boundary.count in
      let parts = alone text whole in
      let chars_are : chars front ≡ take n (chars text) = ap chars is ∙ front_chars text utf8 n in
      let closed : is_closed (take n (chars text)) ≡ true =
      elim boundary.boundary [
        | inl none ↦
            let nothing : drop n (chars text) ≡ [] = sym boundary.splits.rest_is ∙ ap chars none ∙ chars-nil in
            let short : length (chars text) ≤ n = omega (arith, ap length nothing, length-drop n (chars text)) in
            ap is_closed (take_all n (chars text) short) ∙ parts.1
        | inr both ↦ both.0
      ] in
      is_alone front (ap first_opens chars_are ∙ first_opens-take n (chars text) boundary.some parts.0) (ap is_closed chars_are ∙ closed)

  -- so does what is left, if there is any
  pub rest_alone : IsWhole rest
  rest_alone =
      elim boundary.boundary [
        | inl none ↦ inl none
        | inr both ↦
            let n = boundary.count in
            let all = ap is_closed (take-append-drop n (chars text)) ∙ (alone text whole).1 in
            inr (is_alone rest both.1 (ap is_closed boundary.splits.rest_is ∙ closed-behind (take n (chars text)) (drop n (chars text)) both.0 all))
      ]

  pub cut_shorter : length rest < length text
  cut_shorter =
      let front = encode_utf8_all (take boundary.count (chars text)) in
      let some = alone-some front (front_alone front refl) in
      omega (arith, some, ap length boundary.splits.text_is, length-append front rest)
