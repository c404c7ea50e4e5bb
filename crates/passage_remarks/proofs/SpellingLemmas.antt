-- A passage is spelled in one way, and read of it in one way.
use Rattle.std.proofs.Common.{◌≡◌, ◌≢◌, ◌<◌, ℕ, false, true, nat_eq, List, [], ◌∷◌, ◌++◌, inl, inr, length, refl, sym, ap, ap₂, ◌∙◌, arith, append_assoc, append-nil, length-append}
use Rattle.std.specs.Prelude.{Bool, not}
use Rattle.std.proofs.lemmas.Bool.{cases_Bool, eqb-true, eqb-false}
use Rattle.passage_remarks.specs.Spelling.{IsSpelled, escaped_byte, passage_of, word_of_passage}

-- how a byte is spelled
data Written (b : ℕ) : Type 0 where
  line_end : b ≡ 10 → escaped_byte b ≡ 92 ∷ 110 ∷ [] → Written b
  backslash : b ≡ 92 → escaped_byte b ≡ 92 ∷ 92 ∷ [] → Written b
  plain : (b ≡ 10 → ⊥) → (b ≡ 92 → ⊥) → escaped_byte b ≡ b ∷ [] → Written b

written : (b : ℕ) → Written b
written b =
    elim (cases_Bool (nat_eq b 10)) [
      | inl is ↦ line_end (eqb-true b 10 is) (rw is refl)
      | inr differs ↦ elim (cases_Bool (nat_eq b 92)) [
        | inl is ↦ backslash (eqb-true b 92 is) (rw (differs, is) refl)
        | inr other ↦ plain (eqb-false b 10 differs) (eqb-false b 92 other) (rw (differs, other) refl)
      ]
    ]

same_head : (a b : ℕ) (x y : List ℕ) → a ∷ x ≡ b ∷ y → a ≡ b
same_head a b x y is = cc

same_tail : (a b : ℕ) (x y : List ℕ) → a ∷ x ≡ b ∷ y → x ≡ y
same_tail a b x y is = cc

-- what a spelled list begins with
begins : (b : ℕ) (x l : List ℕ) → escaped_byte b ≡ l → escaped_byte b ++ x ≡ l ++ x
begins b x l e = ap (λ m. m ++ x) e

escaped_some : (b : ℕ) → 0 < length (escaped_byte b)
escaped_some b = elim (written b) [
  | line_end i e ↦ omega (arith, ap length e)
  | backslash i e ↦ omega (arith, ap length e)
  | plain d o e ↦ omega (arith, ap length e)
]

one_writing : (a b : ℕ) (x y : List ℕ) → Written a → Written b → escaped_byte a ++ x ≡ escaped_byte b ++ y → (a ≡ b) × (x ≡ y)
one_writing a b x y (line_end i e) (line_end j f) is =
    let s : 92 ∷ 110 ∷ x ≡ 92 ∷ 110 ∷ y = sym (begins a x _ e) ∙ is ∙ begins b y _ f in
    (i ∙ sym j, same_tail _ _ _ _ (same_tail _ _ _ _ s))
one_writing a b x y (line_end i e) (backslash j f) is =
    let s : 92 ∷ 110 ∷ x ≡ 92 ∷ 92 ∷ y = sym (begins a x _ e) ∙ is ∙ begins b y _ f in
    absurd (eqb-false 110 92 refl (same_head _ _ _ _ (same_tail _ _ _ _ s)))
one_writing a b x y (line_end i e) (plain differs other f) is =
    let s : 92 ∷ 110 ∷ x ≡ b ∷ y = sym (begins a x _ e) ∙ is ∙ begins b y _ f in
    absurd (other (sym (same_head _ _ _ _ s)))
one_writing a b x y (backslash i e) (line_end j f) is =
    let s : 92 ∷ 92 ∷ x ≡ 92 ∷ 110 ∷ y = sym (begins a x _ e) ∙ is ∙ begins b y _ f in
    absurd (eqb-false 92 110 refl (same_head _ _ _ _ (same_tail _ _ _ _ s)))
one_writing a b x y (backslash i e) (backslash j f) is =
    let s : 92 ∷ 92 ∷ x ≡ 92 ∷ 92 ∷ y = sym (begins a x _ e) ∙ is ∙ begins b y _ f in
    (i ∙ sym j, same_tail _ _ _ _ (same_tail _ _ _ _ s))
one_writing a b x y (backslash i e) (plain differs other f) is =
    let s : 92 ∷ 92 ∷ x ≡ b ∷ y = sym (begins a x _ e) ∙ is ∙ begins b y _ f in
    absurd (other (sym (same_head _ _ _ _ s)))
one_writing a b x y (plain differs other e) (line_end j f) is =
    let s : a ∷ x ≡ 92 ∷ 110 ∷ y = sym (begins a x _ e) ∙ is ∙ begins b y _ f in
    absurd (other (same_head _ _ _ _ s))
one_writing a b x y (plain differs other e) (backslash j f) is =
    let s : a ∷ x ≡ 92 ∷ 92 ∷ y = sym (begins a x _ e) ∙ is ∙ begins b y _ f in
    absurd (other (same_head _ _ _ _ s))
one_writing a b x y (plain differs other e) (plain differs' other' f) is =
    let s : a ∷ x ≡ b ∷ y = sym (begins a x _ e) ∙ is ∙ begins b y _ f in
    (same_head _ _ _ _ s, same_tail _ _ _ _ s)

-- what is after the first of two bytes that are spelled alike
escaped_same : (a b : ℕ) (x y : List ℕ) → escaped_byte a ++ x ≡ escaped_byte b ++ y → (a ≡ b) × (x ≡ y)
escaped_same a b x y is = one_writing a b x y (written a) (written b) is

-- what is after a front of a word
after_front : (done all rest : List ℕ) → word_of_passage done ++ rest ≡ word_of_passage all → (more : List ℕ) × (all ≡ done ++ more) × (word_of_passage more ≡ rest)
after_front [] all rest is = (all, refl, sym is)
after_front (a ∷ done) [] rest is =
    let long = ap length is in
    absurd (omega (arith, long, length-append (escaped_byte a ++ word_of_passage done) rest, length-append (escaped_byte a) (word_of_passage done), escaped_some a))
after_front (a ∷ done) (b ∷ all) rest is =
    let same = escaped_same a b (word_of_passage done ++ rest) (word_of_passage all) (sym (append_assoc (escaped_byte a) (word_of_passage done) rest) ∙ is) in
    let further = after_front done all rest same.1 in
    (further.0, ap₂ (λ (c : ℕ) (l : List ℕ). c ∷ l) (sym same.0) further.1, further.2)

-- one byte more was read
pub one_more : (word done rest behind : List ℕ) (b : ℕ) → word ≡ word_of_passage done ++ rest → rest ≡ escaped_byte b ++ behind → word ≡ word_of_passage (done ++ b ∷ []) ++ behind
one_more word done rest behind b is first =
    is ∙ ap (λ l. word_of_passage done ++ l) first ∙ sym (append_assoc (word_of_passage done) (escaped_byte b) behind) ∙ ap (λ l. l ++ behind) (sym (push done b))
  where
    push : (xs : List ℕ) (x : ℕ) → word_of_passage (xs ++ x ∷ []) ≡ word_of_passage xs ++ escaped_byte x
    push [] x = append-nil (escaped_byte x)
    push (y ∷ xs) x = ap (λ l. escaped_byte y ++ l) (push xs x) ∙ sym (append_assoc (escaped_byte y) (word_of_passage xs) (escaped_byte x))

-- where no byte is read of what is left, the word spells nothing
pub stuck : (word done rest other : List ℕ) → word ≡ word_of_passage done ++ rest → 0 < length rest → ((b : ℕ) (y : List ℕ) → rest ≢ escaped_byte b ++ y)
    → word ≢ word_of_passage other
stuck word done rest other is some none whole =
    let behind = after_front done other rest (sym is ∙ whole) in
    first behind.0 behind.2
  where
    first : (more : List ℕ) → word_of_passage more ≡ rest → ⊥
    first [] e = omega (arith, some, ap length e)
    first (b ∷ more) e = none b (word_of_passage more) (sym e)

-- where nothing is left, all was read
pub all_read : (word done rest : List ℕ) → word ≡ word_of_passage done ++ rest → length rest ≡ 0 → word ≡ word_of_passage done
all_read word done [] is none = is ∙ append-nil (word_of_passage done)
all_read word done (c ∷ rest) is none = absurd (omega (arith, none))

pub some_read : (word done : List ℕ) → word ≡ word_of_passage done → 0 < length word → done ≢ []
some_read word done is some none = omega (arith, some, ap length is, ap length (ap word_of_passage none))

-- what a word spells is what it was spelled of
pub passage_same : (passage : List ℕ) → passage_of (word_of_passage passage) ≡ passage
unfolding passage_of
passage_same [] = refl
passage_same (b ∷ more) = by (passage_same more) (written b)
  where
    plainly : (rest : List ℕ) → (b ≡ 92 → ⊥) → passage_of (b ∷ rest) ≡ b ∷ passage_of rest
    plainly [] other = refl
    plainly (c ∷ rest) other = rw apart refl
      where
        apart : nat_eq b 92 ≡ false
        apart = elim (cases_Bool (nat_eq b 92)) [ inl e ↦ absurd (other (eqb-true b 92 e)) | inr e ↦ e ]

    by : passage_of (word_of_passage more) ≡ more → Written b → passage_of (escaped_byte b ++ word_of_passage more) ≡ b ∷ more
    by same (line_end i e) =
        ap passage_of (begins b (word_of_passage more) _ e)
        ∙ (let step : passage_of (92 ∷ 110 ∷ word_of_passage more) ≡ 10 ∷ passage_of (word_of_passage more) = refl in step)
        ∙ ap₂ (λ (c : ℕ) (l : List ℕ). c ∷ l) (sym i) same
    by same (backslash i e) =
        ap passage_of (begins b (word_of_passage more) _ e)
        ∙ (let step : passage_of (92 ∷ 92 ∷ word_of_passage more) ≡ 92 ∷ passage_of (word_of_passage more) = refl in step)
        ∙ ap₂ (λ (c : ℕ) (l : List ℕ). c ∷ l) (sym i) same
    by same (plain differs other e) = ap passage_of (begins b (word_of_passage more) _ e) ∙ plainly (word_of_passage more) other ∙ ap (λ l. b ∷ l) same

pub some_unless : (word : List ℕ) (b : Bool) → b ≡ nat_eq (length word) 0 → not b ≡ true → 0 < length word
some_unless [] b e t = let f : false ≡ true = sym (ap not e) ∙ t in cc
some_unless (c ∷ word) b e t = omega arith

pub unless_some : (word : List ℕ) (b : Bool) → b ≡ nat_eq (length word) 0 → 0 < length word → not b ≡ true
unless_some word b e some =
    elim (cases_Bool (nat_eq (length word) 0)) [ inl z ↦ absurd (let none = eqb-true (length word) 0 z in omega (arith, some, none)) | inr n ↦ ap not (e ∙ n) ]

pub spells : (word done rest : List ℕ) → word ≡ word_of_passage done ++ rest → length rest ≡ 0 → 0 < length word → IsSpelled word
spells word done rest is none some =
    let whole = all_read word done rest is none in
    record { passage = done; some = some_read word done whole some; word_is = whole }

pub spelled_some : (word : List ℕ) → IsSpelled word → 0 < length word
spelled_some word s = by s.passage s.some s.word_is
  where
    by : (passage : List ℕ) → passage ≢ [] → word ≡ word_of_passage passage → 0 < length word
    by [] some is = absurd (some refl)
    by (b ∷ more) some is = omega (arith, ap length is, length-append (escaped_byte b) (word_of_passage more), escaped_some b)
