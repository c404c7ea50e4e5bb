-- How a line writes the scalars of a text, and that it is read in one way.
use Rattle.std.proofs.Common.{◌≡◌, ◌<◌, ℕ, zero, suc, false, nat_eq, List, [], ◌∷◌, ◌++◌, ◌⊎◌, inl, inr, length, refl, sym, ap, ap₂, ◌∙◌, arith, lit<, append_assoc, append-nil}
use Rattle.std.proofs.Common.{length-append}
use Rattle.std.specs.List.{flat_map}
use Rattle.std.specs.Prelude.{encode_utf8}
use Rattle.std.proofs.lemmas.Bool.{cases_Bool, eqb-true, eqb-false}
use Rattle.std.proofs.lemmas.Str.{chars_from_encodes, encodes-append, encodes-chars, encode_ascii, encode_same, length-encode, len_utf8_bounds}
use Rattle.std.specs.Str.{chars, IsUtf8}
use Rattle.edit_script.specs.Grammar.{escaped_scalar}

-- how a scalar is written
pub data Written (ch : ℕ) : Type 0 where
  line_end : ch ≡ 10 → escaped_scalar ch ≡ 92 ∷ 110 ∷ [] → Written ch
  backslash : ch ≡ 92 → escaped_scalar ch ≡ 92 ∷ 92 ∷ [] → Written ch
  plain : (ch ≡ 10 → ⊥) → (ch ≡ 92 → ⊥) → escaped_scalar ch ≡ encode_utf8 ch → Written ch

pub written : (ch : ℕ) → Written ch
written ch =
    elim (cases_Bool (nat_eq ch 10)) [
      | inl is ↦ line_end (eqb-true ch 10 is) (rw is refl)
      | inr differs ↦ elim (cases_Bool (nat_eq ch 92)) [
        | inl is ↦ backslash (eqb-true ch 92 is) (rw (differs, is) refl)
        | inr other ↦ plain (eqb-false ch 10 differs) (eqb-false ch 92 other) (rw (differs, other) refl)
      ]
    ]

-- lists with different first members differ
pub other_head : (a b : ℕ) (x y : List ℕ) → a ∷ x ≡ b ∷ y → nat_eq a b ≡ false → ⊥
other_head a b x y is differs = eqb-false a b differs (cc)

slash : encode_utf8 92 ≡ 92 ∷ []
slash = encode_ascii 92 (lit< tt)

-- a text that begins with a backslash begins with no other scalar
slash_first : (a : ℕ) (x y : List ℕ) → 92 ∷ x ≡ encode_utf8 a ++ y → (a ≡ 92) × (y ≡ x)
slash_first a x y e =
    let same = encode_same 92 a x y (ap (λ (l : List ℕ). l ++ x) slash ∙ e) in
    (sym same.0, sym same.1)

-- no scalar's writing begins with another's
one_writing : (a b : ℕ) (x y : List ℕ) → Written a → Written b → escaped_scalar a ++ x ≡ escaped_scalar b ++ y → (a ≡ b) × (x ≡ y)
one_writing a b x y (line_end i e) (line_end j f) is = let s : 92 ∷ 110 ∷ x ≡ 92 ∷ 110 ∷ y =
    sym (ap (λ (l : List ℕ). l ++ x) e) ∙ is ∙ ap (λ (l : List ℕ). l ++ y) f in (i ∙ sym j, cc)
one_writing a b x y (line_end i e) (backslash j f) is =
    let s : 92 ∷ 110 ∷ x ≡ 92 ∷ 92 ∷ y = sym (ap (λ (l : List ℕ). l ++ x) e) ∙ is ∙ ap (λ (l : List ℕ). l ++ y) f in
    absurd (other_head 110 92 x y (cc) refl)
one_writing a b x y (line_end i e) (plain differs other f) is =
    absurd (other ((slash_first b (110 ∷ x) y (sym (ap (λ (l : List ℕ). l ++ x) e) ∙ is ∙ ap (λ (l : List ℕ). l ++ y) f)).0))
one_writing a b x y (backslash i e) (line_end j f) is =
    let s : 92 ∷ 92 ∷ x ≡ 92 ∷ 110 ∷ y = sym (ap (λ (l : List ℕ). l ++ x) e) ∙ is ∙ ap (λ (l : List ℕ). l ++ y) f in
    absurd (other_head 92 110 x y (cc) refl)
one_writing a b x y (backslash i e) (backslash j f) is = let s : 92 ∷ 92 ∷ x ≡ 92 ∷ 92 ∷ y =
    sym (ap (λ (l : List ℕ). l ++ x) e) ∙ is ∙ ap (λ (l : List ℕ). l ++ y) f in (i ∙ sym j, cc)
one_writing a b x y (backslash i e) (plain differs other f) is =
    absurd (other ((slash_first b (92 ∷ x) y (sym (ap (λ (l : List ℕ). l ++ x) e) ∙ is ∙ ap (λ (l : List ℕ). l ++ y) f)).0))
one_writing a b x y (plain differs other e) (line_end j f) is =
    absurd (other ((slash_first a (110 ∷ y) x (sym (ap (λ (l : List ℕ). l ++ y) f) ∙ sym is ∙ ap (λ (l : List ℕ). l ++ x) e)).0))
one_writing a b x y (plain differs other e) (backslash j f) is =
    absurd (other ((slash_first a (92 ∷ y) x (sym (ap (λ (l : List ℕ). l ++ y) f) ∙ sym is ∙ ap (λ (l : List ℕ). l ++ x) e)).0))
one_writing a b x y (plain differs other e) (plain differs' other' f) is =
    encode_same a b x y (sym (ap (λ (l : List ℕ). l ++ x) e) ∙ is ∙ ap (λ (l : List ℕ). l ++ y) f)

some_writing : (ch : ℕ) → Written ch → 0 < length (escaped_scalar ch)
some_writing ch (line_end i e) = omega (arith, ap length e)
some_writing ch (backslash i e) = omega (arith, ap length e)
some_writing ch (plain differs other e) = omega (arith, ap length e, length-encode ch, (len_utf8_bounds ch).0)

-- a scalar's writing is not empty
pub escaped_some : (ch : ℕ) → 0 < length (escaped_scalar ch)
escaped_some ch = some_writing ch (written ch)

-- what is after the writing of the first of two scalars that are written alike
pub escaped_same : (a b : ℕ) (x y : List ℕ) → escaped_scalar a ++ x ≡ escaped_scalar b ++ y → (a ≡ b) × (x ≡ y)
escaped_same a b x y is = one_writing a b x y (written a) (written b) is

-- no text begins with an LF as it is
line_end_raw : (ch : ℕ) (x y : List ℕ) → Written ch → encode_utf8 10 ++ x ≡ escaped_scalar ch ++ y → ⊥
line_end_raw ch x y (line_end i e) is =
    let s : 10 ∷ x ≡ 92 ∷ 110 ∷ y = sym (ap (λ (l : List ℕ). l ++ x) (encode_ascii 10 (lit< tt))) ∙ is ∙ ap (λ (l : List ℕ). l ++ y) e in
    other_head 10 92 _ _ s refl
line_end_raw ch x y (backslash i e) is =
    let s : 10 ∷ x ≡ 92 ∷ 92 ∷ y = sym (ap (λ (l : List ℕ). l ++ x) (encode_ascii 10 (lit< tt))) ∙ is ∙ ap (λ (l : List ℕ). l ++ y) e in
    other_head 10 92 _ _ s refl
line_end_raw ch x y (plain differs other e) is = differs (sym ((encode_same 10 ch x y (is ∙ ap (λ (l : List ℕ). l ++ y) e)).0))

pub no_raw_line_end : (text x : List ℕ) (c : ℕ) → text ≡ encode_utf8 c ++ x → c ≡ 10 → (ch : ℕ) (y : List ℕ) → text ≡ escaped_scalar ch ++ y → ⊥
no_raw_line_end text x c is c_is ch y other = line_end_raw ch x y (written ch) (ap (λ (d : ℕ). encode_utf8 d ++ x) (sym c_is) ∙ sym is ∙ other)

-- what a backslash stands in front of
after_slash : (ch : ℕ) (x y : List ℕ) → Written ch → 92 ∷ x ≡ escaped_scalar ch ++ y → (x ≡ encode_utf8 110 ++ y) ⊎ (x ≡ encode_utf8 92 ++ y)
after_slash ch x y (line_end i e) is =
    let s : 92 ∷ x ≡ 92 ∷ 110 ∷ y = is ∙ ap (λ (l : List ℕ). l ++ y) e in
    let t : x ≡ 110 ∷ y = cc in inl (t ∙ ap (λ (l : List ℕ). l ++ y) (sym (encode_ascii 110 (lit< tt))))
after_slash ch x y (backslash i e) is =
    let s : 92 ∷ x ≡ 92 ∷ 92 ∷ y = is ∙ ap (λ (l : List ℕ). l ++ y) e in
    let t : x ≡ 92 ∷ y = cc in inr (t ∙ ap (λ (l : List ℕ). l ++ y) (sym slash))
after_slash ch x y (plain differs other e) is = absurd (other ((slash_first ch x y (is ∙ ap (λ (l : List ℕ). l ++ y) e)).0))

behind_slash : (text x : List ℕ) (c : ℕ) → text ≡ encode_utf8 c ++ x → c ≡ 92 → (ch : ℕ) (y : List ℕ) → text ≡ escaped_scalar ch ++ y
    → (x ≡ encode_utf8 110 ++ y) ⊎ (x ≡ encode_utf8 92 ++ y)
behind_slash text x c is c_is ch y other =
    after_slash ch x y (written ch) (sym (ap (λ (l : List ℕ). l ++ x) slash) ∙ ap (λ (d : ℕ). encode_utf8 d ++ x) (sym c_is) ∙ sym is ∙ other)

-- no text ends after a backslash
pub no_last_backslash : (text x : List ℕ) (c : ℕ) → text ≡ encode_utf8 c ++ x → c ≡ 92 → length x ≡ 0 → (ch : ℕ) (y : List ℕ) → text ≡ escaped_scalar ch ++ y → ⊥
no_last_backslash text x c is c_is none ch y other =
    elim (behind_slash text x c is c_is ch y other) [
      | inl e ↦ omega (arith, none, ap length e, length-append (encode_utf8 110) y, length-encode 110, (len_utf8_bounds 110).0)
      | inr e ↦ omega (arith, none, ap length e, length-append (encode_utf8 92) y, length-encode 92, (len_utf8_bounds 92).0)
    ]

-- a backslash stands before an `n` or a backslash
pub no_other_backslash : (text x z : List ℕ) (c d : ℕ) → text ≡ encode_utf8 c ++ x → c ≡ 92 → x ≡ encode_utf8 d ++ z → (d ≡ 110 → ⊥) → (d ≡ 92 → ⊥)
    → (ch : ℕ) (y : List ℕ) → text ≡ escaped_scalar ch ++ y → ⊥
no_other_backslash text x z c d is c_is d_is no_n no_slash ch y other =
    elim (behind_slash text x c is c_is ch y other) [
      | inl e ↦ no_n ((encode_same d 110 z y (sym d_is ∙ e)).0)
      | inr e ↦ no_slash ((encode_same d 92 z y (sym d_is ∙ e)).0)
    ]

-- what is after a front of a written text
pub written_after : (done all rest : List ℕ) → flat_map escaped_scalar done ++ rest ≡ flat_map escaped_scalar all
    → (more : List ℕ) × (all ≡ done ++ more) × (flat_map escaped_scalar more ≡ rest)
written_after [] all rest is = (all, refl, sym is)
written_after (a ∷ done) [] rest is =
    let long = ap length is in
    absurd (omega (
      arith,
      long,
      length-append (escaped_scalar a ++ flat_map escaped_scalar done) rest,
      length-append (escaped_scalar a) (flat_map escaped_scalar done),
      escaped_some a,
    ))
written_after (a ∷ done) (b ∷ all) rest is =
    let same = escaped_same a b (flat_map escaped_scalar done ++ rest) (flat_map escaped_scalar all)
    (sym (append_assoc (escaped_scalar a) (flat_map escaped_scalar done) rest) ∙ is) in
    let further = written_after done all rest same.1 in
    (further.0, ap₂ (λ (c : ℕ) (l : List ℕ). c ∷ l) (sym same.0) further.1, further.2)

-- one more scalar was read
pub written_next : (text new rest behind : List ℕ) (ch : ℕ) → text ≡ flat_map escaped_scalar new ++ rest → rest ≡ escaped_scalar ch ++ behind
    → text ≡ flat_map escaped_scalar (new ++ ch ∷ []) ++ behind
written_next text new rest behind ch is first =
    is ∙ ap (λ (l : List ℕ). flat_map escaped_scalar new ++ l) first ∙ sym (append_assoc (flat_map escaped_scalar new) (escaped_scalar ch) behind)
    ∙ ap (λ (l : List ℕ). l ++ behind) (sym (flat_map_push new ch))
  where
    flat_map_push : (xs : List ℕ) (x : ℕ) → flat_map escaped_scalar (xs ++ x ∷ []) ≡ flat_map escaped_scalar xs ++ escaped_scalar x
    flat_map_push [] x = simp append-nil
    flat_map_push (y ∷ xs) x =
        ap (λ (l : List ℕ). escaped_scalar y ++ l) (flat_map_push xs x) ∙ sym (append_assoc (escaped_scalar y) (flat_map escaped_scalar xs) (escaped_scalar x))

-- where no scalar is read of what is left, the text is none
pub stuck : (text new rest other : List ℕ) → text ≡ flat_map escaped_scalar new ++ rest → 0 < length rest
    → ((ch : ℕ) (y : List ℕ) → rest ≡ escaped_scalar ch ++ y → ⊥) → text ≡ flat_map escaped_scalar other → ⊥
stuck text new rest other is some none spelled =
    let behind = written_after new other rest (sym is ∙ spelled) in
    first behind.0 behind.2
  where
    first : (more : List ℕ) → flat_map escaped_scalar more ≡ rest → ⊥
    first [] e = omega (arith, some, ap length e)
    first (ch ∷ more) e = none ch (flat_map escaped_scalar more) (sym e)

-- where nothing is left, all was read
pub all_read : (text new rest other : List ℕ) → text ≡ flat_map escaped_scalar new ++ rest → length rest ≡ 0 → text ≡ flat_map escaped_scalar other → new ≡ other
all_read text new rest other is none spelled =
    let behind = written_after new other rest (sym is ∙ spelled) in
    over behind.0 behind.2 behind.1
  where
    over : (more : List ℕ) → flat_map escaped_scalar more ≡ rest → other ≡ new ++ more → new ≡ other
    over [] e whole = sym (whole ∙ append-nil new)
    over (ch ∷ more) e whole = absurd (omega (arith, none, ap length e, length-append (escaped_scalar ch) (flat_map escaped_scalar more), escaped_some ch))

pub read_whole : (text new rest : List ℕ) → text ≡ flat_map escaped_scalar new ++ rest → length rest ≡ 0 → text ≡ flat_map escaped_scalar new
read_whole text new [] is none = is ∙ append-nil (flat_map escaped_scalar new)
read_whole text new (c ∷ rest) is none = absurd (omega (arith, none))

-- a scalar more at the end of a text
pub chars_push : (bytes longer : List ℕ) (ch : ℕ) → IsUtf8 bytes → IsUtf8 longer → longer ≡ bytes ++ encode_utf8 ch → chars longer ≡ chars bytes ++ ch ∷ []
chars_push bytes longer ch utf8 longer_utf8 is =
    sym (chars_from_encodes (chars bytes ++ ch ∷ []) longer longer_utf8
    (encodes-append (chars bytes) (ch ∷ []) ∙ ap₂ ◌++◌ (encodes-chars bytes utf8) (append-nil (encode_utf8 ch)) ∙ sym is))

-- only no scalars are written as an empty text
pub none_written : (new : List ℕ) → length (flat_map escaped_scalar new) ≡ 0 → new ≡ []
none_written [] none = refl
none_written (ch ∷ new) none = absurd (omega (arith, none, length-append (escaped_scalar ch) (flat_map escaped_scalar new), escaped_some ch))
