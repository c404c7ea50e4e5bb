-- The text of a title: what some of its bytes say of the rest.
use Rattle.std.proofs.Common.{◌≡◌, ℕ, zero, suc, ◌+◌, ◌-◌, ◌<◌, ◌≤◌, true, false, List, [], ◌∷◌, ◌++◌, length, take, drop, get_or, refl, ap, sym, subst, ◌∙◌, inl, inr}
use Rattle.std.proofs.Common.{append_assoc, arith, length-append, length-drop}
use Rattle.std.specs.Prelude.{◌&&◌, All, is_some, Option, Some, None}
use Rattle.std.specs.Char.{IsScalar, encode_utf8}
use Rattle.std.specs.Str.{chars, IsUtf8, IsValidUpTo, encode_utf8_all, all_scalars, IsErrorLen}
use Rattle.std.specs.Str.Lossy.{utf8_error_len}
use Rattle.std.proofs.str.Laws.{both}
use Rattle.std.proofs.lemmas.Bool.{or_from}
use Rattle.std.proofs.lemmas.List.{append-nil, get_or-drop, take-append-drop, take-append-le, drop-append-le, take_at}
use Rattle.std.proofs.lemmas.List.Elements.{All-cons, All-head, All-nil, All-tail}
use Rattle.std.proofs.lemmas.List.Folds.{list_any-append}
use Rattle.std.proofs.Math.Seq.{take-add}
use Rattle.std.proofs.lemmas.Str.{encodes_same, encode_ascii, length-encode, len_utf8_bounds, encodes-chars, IsUtf8-append, IsUtf8-drop, IsUtf8-encode, IsCharBoundary-from_take}
use Rattle.fugue_ids.specs.Titles.{has_line_end, ends_line, IsTitleText}
use Rattle.fugue_ids.specs.declared.limits.TheConstants.{LONGEST_TITLE}
use Rattle.origin_model.specs.frames.Frames.{IsTitle}
use Rattle.op_frame.specs.FrameFronts.{IsDueFront, IsTitleEnd, NeverCompletes, width_of}
use Rattle.op_frame.specs.declared.due.Due.TheVariants.{Fields}
use Rattle.op_frame.specs.declared.due.Last.TheVariants.{Text}
use Rattle.op_frame.proofs.FormatLemmas.{two_fronts}
use Rattle.op_frame.proofs.CharacterLemmas.{Spells, goes_on, cut_is}

-- neither part has a line end
pub no_line_ends : (xs ys : List ℕ) → has_line_end xs ≡ false → has_line_end ys ≡ false → has_line_end (xs ++ ys) ≡ false
no_line_ends xs ys p q = list_any-append ends_line xs ys ∙ or_from _ _ p q

all_are_scalars : (t : List ℕ) → all_scalars t ≡ true → All IsScalar t
all_are_scalars [] p = All-nil IsScalar
all_are_scalars (c ∷ t) p = let h = both _ _ p in All-cons IsScalar c t h.0 (all_are_scalars t h.1)

are_all_scalars : (t : List ℕ) → All IsScalar t → all_scalars t ≡ true
are_all_scalars [] p = refl
are_all_scalars (c ∷ t) p = λ i. All-head IsScalar c t p i && are_all_scalars t (All-tail IsScalar c t p) i

-- a title's text, and the title of a text
pub title_end : (t : List ℕ) → IsTitle t → IsTitleEnd (length (encode_utf8_all t)) (encode_utf8_all t)
title_end t p = ((t, (are_all_scalars t p.scalars, refl)), p.text.one_line, refl)

pub title_of : (t bytes : List ℕ) → bytes ≡ encode_utf8_all t → IsUtf8 bytes → IsTitleText bytes → IsTitle t
title_of t bytes is utf8 text = record {
  scalars = subst (All IsScalar) (encodes_same utf8.0 t (utf8.1.1 ∙ is)) (all_are_scalars utf8.0 utf8.1.0);
  text = subst IsTitleText is text;
}

pub title_in : (len : ℕ) (bytes : List ℕ) → 0 < len → len ≤ LONGEST_TITLE → IsTitleEnd len bytes → IsTitle (chars bytes)
title_in len bytes some short e =
    title_of (chars bytes) bytes (sym (encodes-chars bytes e.0)) e.0 (record { some = omega (arith, some, e.2); short = omega (arith, short, e.2); one_line = e.1 })

-- n bytes 'a'
abbrev pub letters : ℕ → List ℕ
letters zero = []
letters (suc n) = 97 ∷ letters n

letters_plain : (n : ℕ) → has_line_end (letters n) ≡ false
letters_plain zero = refl
letters_plain (suc n) = letters_plain n

letters_long : (n : ℕ) → length (letters n) ≡ n
letters_long zero = refl
letters_long (suc n) = ap suc (letters_long n)

letters_utf8 : (n : ℕ) → IsUtf8 (letters n)
letters_utf8 zero = ([], (refl, refl))
letters_utf8 (suc n) = subst IsUtf8 (ap (λ (l : List ℕ). l ++ letters n) (encode_ascii 97 (omega arith)))
    (IsUtf8-append (encode_utf8 97) (letters n) (IsUtf8-encode 97 refl) (letters_utf8 n))

pub letters_end : (n : ℕ) → IsTitleEnd n (letters n)
letters_end n = (letters_utf8 n, letters_plain n, letters_long n)

-- where text is cut within a character, what is after the text
record Straddles (front more : List ℕ) (at : ℕ) : Type 0 where
  ch : ℕ
  scalar : IsScalar ch
  rest : List ℕ
  lacks : 0 < length rest
  is : encode_utf8 ch ≡ drop at front ++ rest
  fits : at + length (encode_utf8 ch) ≤ length (front ++ more)

front_and : (at : ℕ) (front x between : List ℕ) → drop at front ≡ x ++ between → take (at + length x) front ≡ take at front ++ x
front_and at front x between same = take-add at (length x) front ∙ ap (λ (l : List ℕ). take at front ++ l) (ap (take (length x)) same ∙ take_at x between (length x) refl)

cut_within : (front more : List ℕ) (at : ℕ) → IsValidUpTo front at → (cs : List ℕ) → All IsScalar cs → encode_utf8_all cs ≡ drop at front ++ more → Straddles front more at
cut_within front more at valid [] all is =
    absurd (omega (arith, valid.short, ap length is, length-append (drop at front) more, length-drop at front))
cut_within front more at valid (c ∷ cs) all is = elim (two_fronts (encode_utf8 c) (encode_utf8_all cs) (drop at front) more is) [
  | inl p ↦ absurd (valid.longest (at + length (encode_utf8 c)) (omega (arith, (len_utf8_bounds c).0, length-encode c)) (longer p.between p.is))
  | inr p ↦ record {
    ch = c;
    scalar = All-head IsScalar c cs all;
    rest = p.between;
    lacks = p.some;
    is = p.is;
    fits = omega (
      arith,
      valid.short,
      ap length is,
      length-append (drop at front) more,
      length-append front more,
      length-append (encode_utf8 c) (encode_utf8_all cs),
      length-drop at front,
    );
  }
]
  where
    longer : (between : List ℕ) → drop at front ≡ encode_utf8 c ++ between → IsUtf8 (take (at + length (encode_utf8 c)) front)
    longer between same = subst IsUtf8 (sym (front_and at front (encode_utf8 c) between same))
        (IsUtf8-append (take at front) (encode_utf8 c) valid.front (IsUtf8-encode c (All-head IsScalar c cs all)))

straddles : (front more : List ℕ) (at : ℕ) → IsValidUpTo front at → IsUtf8 (front ++ more) → Straddles front more at
straddles front more at valid all =
    let within : take at (front ++ more) ≡ take at front = take-append-le at front more (omega (arith, valid.short)) in
    let boundary = IsCharBoundary-from_take (front ++ more) at all (omega (arith, valid.short, length-append front more)) (subst IsUtf8 (sym within) valid.front) in
    let behind : IsUtf8 (drop at front ++ more) = subst IsUtf8 (drop-append-le at front more (omega (arith, valid.short))) (IsUtf8-drop (front ++ more) at all boundary) in
    cut_within front more at valid behind.0 (all_are_scalars behind.0 behind.1.0) behind.1.1

cut_here : (front more : List ℕ) (at : ℕ) → IsValidUpTo front at → IsUtf8 (front ++ more)
    → (utf8_error_len (drop at front) ≡ None) × (at + width_of (get_or (drop at front) 0 0) ≤ length (front ++ more))
cut_here front more at valid all =
    let s = straddles front more at valid all in
    let cut = cut_is s.ch (drop at front) s.rest s.scalar (omega (arith, valid.short, length-drop at front)) s.lacks s.is in
    (cut.no_fault, omega (arith, cut.long, s.fits))

width_here : (front : List ℕ) (at place : ℕ) → place ≡ at → width_of (get_or front place 0) ≡ width_of (get_or (drop at front) 0 0)
width_here front at place here =
    let same : place ≡ at + 0 = omega (arith, here) in
    ap (λ (k : ℕ). width_of (get_or front k 0)) same ∙ ap width_of (sym (get_or-drop at front 0 0))

no_character : (front : List ℕ) (at : ℕ) → IsValidUpTo front at → (more x : List ℕ) → Spells x → drop at front ≡ x ++ more → ⊥
no_character front at valid more x spells is =
    valid.longest (at + length x) (omega (arith, (len_utf8_bounds spells.ch).0, length-encode spells.ch, ap length spells.is))
    (subst IsUtf8 (sym (front_and at front x more is)) (IsUtf8-append (take at front) x valid.front (subst IsUtf8 spells.is (IsUtf8-encode spells.ch spells.scalar))))

-- text, the front of a character, its rest, and more text
begun_utf8 : (text begun front rest more : List ℕ) → text ++ begun ≡ front → IsUtf8 text → IsUtf8 (begun ++ rest) → IsUtf8 more → IsUtf8 (front ++ (rest ++ more))
begun_utf8 text begun front rest more parts p q r =
    let regroup : text ++ ((begun ++ rest) ++ more) ≡ (text ++ begun) ++ (rest ++ more) = simp append_assoc in
    subst IsUtf8 (regroup ∙ ap (λ (l : List ℕ). l ++ (rest ++ more)) parts) (IsUtf8-append text ((begun ++ rest) ++ more) p (IsUtf8-append (begun ++ rest) more q r))

module _ (len : ℕ) (front : List ℕ) where
  -- all of it, and no text
  pub last_none : length front ≡ len → (IsUtf8 front → ⊥) → NeverCompletes (Fields 0 0 (Text len)) front
  last_none long bad [] e = bad (subst IsUtf8 (append-nil front) e.0)
  last_none long bad (x ∷ more) e = omega (arith, long, e.2, length-append front (x ∷ more))

  -- a fault in the text
  pub fault_none : (at : ℕ) (fault : Option ℕ) → IsValidUpTo front at → fault ≡ utf8_error_len (drop at front) → is_some fault ≡ true → NeverCompletes (Fields 0 0 (Text len)) front
  fault_none at fault valid is some more e = let clash : true ≡ false = sym some ∙ ap is_some (is ∙ (cut_here front more at valid e.0).0) in cc clash

  -- a character that doesn't fit the bytes that are left
  pub wide_none : (at place width : ℕ) → IsValidUpTo front at → place ≡ at → width ≡ width_of (get_or front place 0) → len - place < width
      → NeverCompletes (Fields 0 0 (Text len)) front
  wide_none at place width valid here is wide more e =
      omega (arith, valid.short, wide, (cut_here front more at valid e.0).1, here, is, width_here front at place here, e.2)

  -- text cut within a character that fits: the rest of the character, and letters after it, may follow
  pub cut_front : (at place width : ℕ) (fault : Option ℕ) → has_line_end front ≡ false → IsValidUpTo front at → IsErrorLen front at fault → fault ≡ utf8_error_len (drop at front)
      → is_some fault ≡ false → place ≡ at → width ≡ width_of (get_or front place 0) → width ≤ len - place → IsDueFront (Fields 0 0 (Text len)) front
  cut_front at place width None one_line valid near is none here wide small =
      let fits : width_of (get_or (drop at front) 0 0) ≤ len - at = omega (arith, here, wide, small, width_here front at place here) in
      let g = goes_on (drop at front) (omega (arith, valid.short, length-drop at front)) (omega (arith, near, length-drop at front)) (sym is) (no_character front at valid) in
      let n : ℕ = len - (length front + length g.more) in
      let parts : take at front ++ drop at front ≡ front = take-append-drop at front in
      record {
        more = g.more ++ letters n;
        lacks = omega (arith, g.lacks, length-append g.more (letters n));
        completes = (
          begun_utf8 (take at front) (drop at front) front g.more (letters n) parts valid.front (subst IsUtf8 g.whole.is (IsUtf8-encode g.whole.ch g.whole.scalar))
              (letters_utf8 n),
          no_line_ends front (g.more ++ letters n) one_line (no_line_ends g.more (letters n) g.no_line_end (letters_plain n)),
          omega (
            arith,
            g.long,
            fits,
            valid.short,
            length-append front (g.more ++ letters n),
            length-append g.more (letters n),
            letters_long n,
            length-append (drop at front) g.more,
            length-drop at front,
            g.lacks,
          ),
        );
      }
  cut_front at place width (Some k) one_line valid near is none here wide small = absurd (cc none)
