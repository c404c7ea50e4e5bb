-- Bytes that begin a character, and how many it has.
use Rattle.std.proofs.Common.{◌≡◌, ◌≢◌, ℕ, ◌+◌, ◌-◌, ◌*◌, ◌/◌, ◌<◌, ◌≤◌, Bool, true, false, cond, List, [], ◌∷◌, ◌++◌, length, get_or, refl, ap, sym, subst, ◌∙◌, ◌⊎◌, inl, inr}
use Rattle.std.proofs.Common.{arith, length-append}
use Rattle.std.specs.Prelude.{Option, Some, None, MatchBool}
use Rattle.std.specs.Char.{IsScalar, encode_utf8}
use Rattle.std.specs.Int.{IsInRange, IsOutOfRange, is_in_range}
use Rattle.std.specs.Str.Lossy.{utf8_error_len, second_byte_min, second_byte_max}
use Rattle.std.proofs.lemmas.Bool.{cases_eq, cond-true}
use Rattle.std.proofs.lemmas.Bool.Decides.{nat_tests}
use Rattle.std.proofs.str.Laws.{order, one, two, three, four}
use Rattle.std.proofs.str.Classes.{range}
use Rattle.fugue_ids.specs.Titles.{has_line_end}
use Rattle.op_frame.specs.FrameFronts.{width_of}
use Rattle.op_frame.proofs.CodeLemmas.{scalar_below}
use lib.Utf8.{scalar_cases, low_scalar, next}

high_scalar : (c : ℕ) → 57344 ≤ c → c < 1114112 → IsScalar c
high_scalar c l h = grind (arith, nat_tests)

in_range : (lo hi c : ℕ) → is_in_range lo hi c ≡ true → (lo ≤ c) × (c ≤ hi)
in_range lo hi c is = subst (λ b. MatchBool b (IsInRange lo hi c) (IsOutOfRange lo hi c)) is (range lo hi c)

is_range : (lo hi c : ℕ) → lo ≤ c → c ≤ hi → is_in_range lo hi c ≡ true
is_range lo hi c p q = grind (arith, nat_tests)

width_two : (x : ℕ) → x < 224 → width_of x ≡ 2
width_two x h = grind (arith, nat_tests)

width_three : (x : ℕ) → 224 ≤ x → x < 240 → width_of x ≡ 3
width_three x l h = grind (arith, nat_tests)

width_four : (x : ℕ) → 240 ≤ x → width_of x ≡ 4
width_four x l = grind (arith, nat_tests)

second_low : (x y : ℕ) → 128 ≤ y → (x ≡ 224 → 160 ≤ y) → (x ≡ 240 → 144 ≤ y) → second_byte_min x ≤ y
second_low x y l p q = grind (arith, nat_tests)

second_high : (x y : ℕ) → y ≤ 191 → (x ≡ 237 → y ≤ 159) → (x ≡ 244 → y ≤ 143) → y ≤ second_byte_max x
second_high x y h p q = grind (arith, nat_tests)

low_second : (x y : ℕ) → second_byte_min x ≤ y → (128 ≤ y) × (x ≡ 224 → 160 ≤ y) × (x ≡ 240 → 144 ≤ y)
low_second x y h = (grind (arith, nat_tests), (λ e. grind (arith, nat_tests)), (λ e. grind (arith, nat_tests)))

high_second : (x y : ℕ) → y ≤ second_byte_max x → (y ≤ 191) × (x ≡ 237 → y ≤ 159) × (x ≡ 244 → y ≤ 143)
high_second x y h = (grind (arith, nat_tests), (λ e. grind (arith, nat_tests)), (λ e. grind (arith, nat_tests)))

-- the scalar of two, three and four bytes
pub record Spells (bytes : List ℕ) : Type 0 where
  pub ch : ℕ
  pub scalar : IsScalar ch
  pub is : encode_utf8 ch ≡ bytes

spells2 : (a b : ℕ) → 194 ≤ a → a < 224 → 128 ≤ b → b ≤ 191 → Spells (a ∷ b ∷ [])
spells2 a b l h p q =
    let c : ℕ = (a - 192) * 64 + (b - 128) in
    let e1 : 192 + c / 64 ≡ a = omega arith in
    let e2 : next c ≡ b = omega arith in
    record { ch = c; scalar = low_scalar c (omega arith); is = two c (omega arith) (omega arith) ∙ (λ i. e1 i ∷ e2 i ∷ []) }

below_surrogates : (c a b d : ℕ) → c ≡ (a - 224) * 4096 + (b - 128) * 64 + (d - 128) → a < 238 → (a ≡ 237 → b ≤ 159) → b ≤ 191 → d ≤ 191 → c < 55296
below_surrogates c a b d is top high q s = by_lead (order a 237)
  where
    by_lead : (a < 237) ⊎ (237 ≤ a) → c < 55296
    by_lead (inl p) = omega arith
    by_lead (inr p) = let bound : b ≤ 159 = high (omega arith) in omega arith

scalar_of_three : (c a b d : ℕ) → c ≡ (a - 224) * 4096 + (b - 128) * 64 + (d - 128) → c < 65536 → (a ≡ 237 → b ≤ 159)
    → 224 ≤ a → a < 240 → 128 ≤ b → b ≤ 191 → 128 ≤ d → d ≤ 191 → IsScalar c
scalar_of_three c a b d is top high l h p q r s = by_lead (order a 238)
  where
    by_lead : (a < 238) ⊎ (238 ≤ a) → IsScalar c
    by_lead (inl below) = low_scalar c (below_surrogates c a b d is below high q s)
    by_lead (inr above) = high_scalar c (omega arith) (omega arith)

least_of_three : (a b : ℕ) → 224 ≤ a → 128 ≤ b → (a ≡ 224 → 160 ≤ b) → 32 ≤ (a - 224) * 64 + (b - 128)
least_of_three a b l p low = by_lead (order a 225)
  where
    by_lead : (a < 225) ⊎ (225 ≤ a) → 32 ≤ (a - 224) * 64 + (b - 128)
    by_lead (inl at) = let bound : 160 ≤ b = low (omega arith) in omega arith
    by_lead (inr above) = omega arith

bounds_of_four : (a b : ℕ) → 240 ≤ a → a ≤ 244 → 128 ≤ b → b ≤ 191 → (a ≡ 240 → 144 ≤ b) → (a ≡ 244 → b ≤ 143)
    → (16 ≤ (a - 240) * 64 + (b - 128)) × ((a - 240) * 64 + (b - 128) < 272)
bounds_of_four a b l h p q low high = (by_least (order a 241), by_most (order a 244))
  where
    by_least : (a < 241) ⊎ (241 ≤ a) → 16 ≤ (a - 240) * 64 + (b - 128)
    by_least (inl at) = let bound : 144 ≤ b = low (omega arith) in omega arith
    by_least (inr above) = omega arith

    by_most : (a < 244) ⊎ (244 ≤ a) → (a - 240) * 64 + (b - 128) < 272
    by_most (inl below) = omega arith
    by_most (inr at) = let bound : b ≤ 143 = high (omega arith) in omega arith

spells3 : (a b d : ℕ) → 224 ≤ a → a < 240 → 128 ≤ b → b ≤ 191 → 128 ≤ d → d ≤ 191 → (a ≡ 224 → 160 ≤ b) → (a ≡ 237 → b ≤ 159) → Spells (a ∷ b ∷ d ∷ [])
spells3 a b d l h p q r s low high =
    let c : ℕ = (a - 224) * 4096 + (b - 128) * 64 + (d - 128) in
    let e1 : 224 + c / 4096 ≡ a = omega arith in
    let e2 : next (c / 64) ≡ b = omega arith in
    let e3 : next c ≡ d = omega arith in
    let least : 2048 ≤ c = omega (arith, least_of_three a b l p low) in
    record { ch = c; scalar = scalar_of_three c a b d refl (omega arith) high l h p q r s; is = three c least (omega arith) ∙ (λ i. e1 i ∷ e2 i ∷ e3 i ∷ []) }

spells4 : (a b d e : ℕ) → 240 ≤ a → a ≤ 244 → 128 ≤ b → b ≤ 191 → 128 ≤ d → d ≤ 191 → 128 ≤ e → e ≤ 191 → (a ≡ 240 → 144 ≤ b) → (a ≡ 244 → b ≤ 143) → Spells (a ∷ b ∷ d ∷ e ∷ [])
spells4 a b d e l h p q r s t u low high =
    let c : ℕ = (a - 240) * 262144 + (b - 128) * 4096 + (d - 128) * 64 + (e - 128) in
    let e1 : 240 + c / 262144 ≡ a = omega arith in
    let e2 : next (c / 4096) ≡ b = omega arith in
    let e3 : next (c / 64) ≡ d = omega arith in
    let e4 : next c ≡ e = omega arith in
    let bounds = bounds_of_four a b l h p q low high in
    let least : 65536 ≤ c = omega (arith, bounds.0) in
    record { ch = c; scalar = high_scalar c (omega (arith, bounds.0)) (omega (arith, bounds.1)); is = four c least ∙ (λ i. e1 i ∷ e2 i ∷ e3 i ∷ e4 i ∷ []) }

-- a character that the bytes begin, and what they lack of it
pub record GoesOn (bytes : List ℕ) : Type 0 where
  pub more : List ℕ
  pub whole : Spells (bytes ++ more)
  pub lacks : 0 < length more
  pub no_line_end : has_line_end more ≡ false
  pub long : length (bytes ++ more) ≡ width_of (get_or bytes 0 0)

none_if : (b : Bool) (x : Option ℕ) (k : ℕ) → cond b x (Some k) ≡ None → (b ≡ true) × (x ≡ None)
none_if true x k is = (refl, is)
none_if false x k is = absurd (cc is)

goes_on_one : (a : ℕ) → 194 ≤ a → a ≤ 244 → GoesOn (a ∷ [])
goes_on_one a l h = by_length (order a 224) (order a 240)
  where
    by_three : a ≡ 224 ⊎ a ≢ 224 → 224 ≤ a → a < 240 → GoesOn (a ∷ [])
    by_three (inl is) p q =
        record {
          more = 160 ∷ 128 ∷ [];
          whole = spells3 a 160 128 p q (omega arith) (omega arith) (omega arith) (omega arith) (λ e. omega arith) (λ e. omega arith);
          lacks = omega arith;
          no_line_end = refl;
          long = sym (width_three a p q);
        }
    by_three (inr not) p q =
        record {
          more = 128 ∷ 128 ∷ [];
          whole = spells3 a 128 128 p q (omega arith) (omega arith) (omega arith) (omega arith) (λ e. absurd (not e)) (λ e. omega arith);
          lacks = omega arith;
          no_line_end = refl;
          long = sym (width_three a p q);
        }

    by_four : a ≡ 240 ⊎ a ≢ 240 → 240 ≤ a → GoesOn (a ∷ [])
    by_four (inl is) p = record {
      more = 144 ∷ 128 ∷ 128 ∷ [];
      whole = spells4 a 144 128 128 p h (omega arith) (omega arith) (omega arith) (omega arith) (omega arith) (omega arith) (λ e. omega arith) (λ e. omega arith);
      lacks =
          omega arith;
      no_line_end = refl;
      long = sym (width_four a p);
    }
    by_four (inr not) p = record {
      more = 128 ∷ 128 ∷ 128 ∷ [];
      whole = spells4 a 128 128 128 p h (omega arith) (omega arith) (omega arith) (omega arith) (omega arith) (omega arith) (λ e. absurd (not e)) (λ e. omega arith);
      lacks =
          omega arith;
      no_line_end = refl;
      long = sym (width_four a p);
    }

    by_length : (a < 224) ⊎ (224 ≤ a) → (a < 240) ⊎ (240 ≤ a) → GoesOn (a ∷ [])
    by_length (inl p) _ = record { more = 128 ∷ []; whole = spells2 a 128 l p (omega arith) (omega arith); lacks = omega arith; no_line_end = refl; long = sym (width_two a p) }
    by_length (inr p) (inl q) = by_three (cases_eq a 224) p q
    by_length (inr p) (inr q) = by_four (cases_eq a 240) q

-- the bounds of a second byte
record IsSecond (a b : ℕ) : Type 0 where
  low : 128 ≤ b
  high : b ≤ 191
  after_224 : a ≡ 224 → 160 ≤ b
  after_240 : a ≡ 240 → 144 ≤ b
  after_237 : a ≡ 237 → b ≤ 159
  after_244 : a ≡ 244 → b ≤ 143

second_is : (a b : ℕ) → is_in_range (second_byte_min a) (second_byte_max a) b ≡ true → IsSecond a b
second_is a b is =
    let bounds = in_range (second_byte_min a) (second_byte_max a) b is in
    let low = low_second a b bounds.0 in
    let high = high_second a b bounds.1 in
    record { low = low.0; high = high.0; after_224 = low.1; after_240 = low.2; after_237 = high.1; after_244 = high.2 }

abbrev NoCharacter : List ℕ → Type 0
NoCharacter bytes = (more : List ℕ) → (front : List ℕ) → Spells front → bytes ≡ front ++ more → ⊥

goes_on_two : (a b : ℕ) → 194 ≤ a → a ≤ 244 → IsSecond a b → NoCharacter (a ∷ b ∷ []) → GoesOn (a ∷ b ∷ [])
goes_on_two a b l h second none = by_length (order a 224) (order a 240)
  where
    by_length : (a < 224) ⊎ (224 ≤ a) → (a < 240) ⊎ (240 ≤ a) → GoesOn (a ∷ b ∷ [])
    by_length (inl p) _ = absurd (none [] (a ∷ b ∷ []) (spells2 a b l p second.low second.high) refl)
    by_length (inr p) (inl q) =
        record {
          more = 128 ∷ [];
          whole = spells3 a b 128 p q second.low second.high (omega arith) (omega arith) second.after_224 second.after_237;
          lacks = omega arith;
          no_line_end = refl;
          long = sym (width_three a p q);
        }
    by_length (inr p) (inr q) =
        record {
          more = 128 ∷ 128 ∷ [];
          whole = spells4 a b 128 128 q h second.low second.high (omega arith) (omega arith) (omega arith)
              (omega arith) second.after_240 second.after_244;
          lacks = omega arith;
          no_line_end = refl;
          long = sym (width_four a q);
        }

goes_on_three : (a b d : ℕ) → 194 ≤ a → a ≤ 244 → IsSecond a b → 128 ≤ d → d ≤ 191 → NoCharacter (a ∷ b ∷ d ∷ []) → GoesOn (a ∷ b ∷ d ∷ [])
goes_on_three a b d l h second r s none = by_length (order a 224) (order a 240)
  where
    by_length : (a < 224) ⊎ (224 ≤ a) → (a < 240) ⊎ (240 ≤ a) → GoesOn (a ∷ b ∷ d ∷ [])
    by_length (inl p) _ = absurd (none (d ∷ []) (a ∷ b ∷ []) (spells2 a b l p second.low second.high) refl)
    by_length (inr p) (inl q) = absurd (none [] (a ∷ b ∷ d ∷ []) (spells3 a b d p q second.low second.high r s second.after_224 second.after_237) refl)
    by_length (inr p) (inr q) =
        record {
          more = 128 ∷ [];
          whole = spells4 a b d 128 q h second.low second.high r s (omega arith) (omega arith) second.after_240 second.after_244;
          lacks = omega arith;
          no_line_end = refl;
          long = sym (width_four a q);
        }

-- bytes that are cut within a character begin one
pub goes_on : (bytes : List ℕ) → 0 < length bytes → length bytes < 4 → utf8_error_len bytes ≡ None → NoCharacter bytes → GoesOn bytes
unfolding utf8_error_len
goes_on [] some short cut none = absurd (omega (arith, some))
goes_on (a ∷ []) some short cut none =
    let first = none_if (is_in_range 194 244 a) None 1 cut in
    let bounds = in_range 194 244 a first.0 in
    goes_on_one a bounds.0 bounds.1
goes_on (a ∷ b ∷ []) some short cut none =
    let first = none_if (is_in_range 194 244 a) (cond (is_in_range (second_byte_min a) (second_byte_max a) b) None (Some 1)) 1 cut in
    let bounds = in_range 194 244 a first.0 in
    let second = none_if (is_in_range (second_byte_min a) (second_byte_max a) b) None 1 first.1 in
    goes_on_two a b bounds.0 bounds.1 (second_is a b second.0) none
goes_on (a ∷ b ∷ d ∷ []) some short cut none =
    let first = none_if (is_in_range 194 244 a) (cond (is_in_range (second_byte_min a) (second_byte_max a) b) (cond (is_in_range 128 191 d) None (Some 2)) (Some 1)) 1 cut in
    let bounds = in_range 194 244 a first.0 in
    let second = none_if (is_in_range (second_byte_min a) (second_byte_max a) b) (cond (is_in_range 128 191 d) None (Some 2)) 1 first.1 in
    let third = none_if (is_in_range 128 191 d) None 2 second.1 in
    let last = in_range 128 191 d third.0 in
    goes_on_three a b d bounds.0 bounds.1 (second_is a b second.0) last.0 last.1 none
goes_on (a ∷ b ∷ d ∷ e ∷ rest) some short cut none = absurd (omega (arith, short))

-- a front of a character: std finds no fault in it, and its first byte says how long the character is
pub record IsCut (bytes : List ℕ) (c : ℕ) : Type 0 where
  pub no_fault : utf8_error_len bytes ≡ None
  pub long : width_of (get_or bytes 0 0) ≡ length (encode_utf8 c)

first_ok : (x : ℕ) → 194 ≤ x → x ≤ 244 → utf8_error_len (x ∷ []) ≡ None
unfolding utf8_error_len
first_ok x l h = cond-true _ _ _ (is_range 194 244 x l h)

second_ok : (x y : ℕ) → 194 ≤ x → x ≤ 244 → IsSecond x y → utf8_error_len (x ∷ y ∷ []) ≡ None
unfolding utf8_error_len
second_ok x y l h s =
    cond-true _ _ _ (is_range 194 244 x l h)
    ∙ cond-true _ _ _ (is_range (second_byte_min x) (second_byte_max x) y (second_low x y s.low s.after_224 s.after_240) (second_high x y s.high s.after_237 s.after_244))

third_ok : (x y z : ℕ) → 194 ≤ x → x ≤ 244 → IsSecond x y → 128 ≤ z → z ≤ 191 → utf8_error_len (x ∷ y ∷ z ∷ []) ≡ None
unfolding utf8_error_len
third_ok x y z l h s p q =
    cond-true _ _ _ (is_range 194 244 x l h)
    ∙ cond-true _ _ _ (is_range (second_byte_min x) (second_byte_max x) y (second_low x y s.low s.after_224 s.after_240) (second_high x y s.high s.after_237 s.after_244))
    ∙ cond-true _ _ _ (is_range 128 191 z p q)

cut_two : (c : ℕ) (bytes more : List ℕ) → 128 ≤ c → c < 2048 → 0 < length bytes → 0 < length more → encode_utf8 c ≡ bytes ++ more → IsCut bytes c
cut_two c [] more l h some lacks is = absurd (omega (arith, some))
cut_two c (x ∷ []) more l h some lacks is =
    let all : (192 + c / 64) ∷ next c ∷ [] ≡ x ∷ more = sym (two c l h) ∙ is in
    let e : 192 + c / 64 ≡ x = cc all in
    record { no_fault = first_ok x (omega (arith, e)) (omega (arith, e)); long = width_two x (omega (arith, e)) ∙ sym (ap length (two c l h)) }
cut_two c (x ∷ y ∷ bytes) more l h some lacks is = absurd (omega (arith, lacks, ap length (sym (two c l h) ∙ is), length-append bytes more))

second_of_three : (c x y : ℕ) → (c < 55296) ⊎ ((57344 ≤ c) × (c < 1114112)) → 2048 ≤ c → c < 65536 → 224 + c / 4096 ≡ x → next (c / 64) ≡ y → IsSecond x y
second_of_three c x y (inl s) l h e f =
    record { low = omega arith; high = omega arith; after_224 = λ is. omega arith; after_240 = λ is. omega arith; after_237 = λ is. omega arith; after_244 = λ is. omega arith }
second_of_three c x y (inr s) l h e f =
    record { low = omega arith; high = omega arith; after_224 = λ is. omega arith; after_240 = λ is. omega arith; after_237 = λ is. omega arith; after_244 = λ is. omega arith }

second_of_four : (c x y : ℕ) → c < 1114112 → 65536 ≤ c → 240 + c / 262144 ≡ x → next (c / 4096) ≡ y → IsSecond x y
second_of_four c x y h l e f =
    record { low = omega arith; high = omega arith; after_224 = λ is. omega arith; after_240 = λ is. omega arith; after_237 = λ is. omega arith; after_244 = λ is. omega arith }

cut_three : (c : ℕ) (bytes more : List ℕ) → (c < 55296) ⊎ ((57344 ≤ c) × (c < 1114112)) → 2048 ≤ c → c < 65536 → 0 < length bytes → 0 < length more → encode_utf8 c ≡ bytes ++ more
    → IsCut bytes c
cut_three c [] more s l h some lacks is = absurd (omega (arith, some))
cut_three c (x ∷ []) more s l h some lacks is =
    let all : (224 + c / 4096) ∷ next (c / 64) ∷ next c ∷ [] ≡ x ∷ more = sym (three c l h) ∙ is in
    let e : 224 + c / 4096 ≡ x = cc all in
    record { no_fault = first_ok x (omega (arith, e)) (omega (arith, e)); long = width_three x (omega (arith, e)) (omega (arith, e)) ∙ sym (ap length (three c l h)) }
cut_three c (x ∷ y ∷ []) more s l h some lacks is =
    let all : (224 + c / 4096) ∷ next (c / 64) ∷ next c ∷ [] ≡ x ∷ y ∷ more = sym (three c l h) ∙ is in
    let e : 224 + c / 4096 ≡ x = cc all in
    let f : next (c / 64) ≡ y = cc all in
    record {
      no_fault = second_ok x y (omega (arith, e)) (omega (arith, e)) (second_of_three c x y s l h e f);
      long = width_three x (omega (arith, e)) (omega (arith, e)) ∙ sym (ap length (three c l h));
    }
cut_three c (x ∷ y ∷ z ∷ bytes) more s l h some lacks is = absurd (omega (arith, lacks, ap length (sym (three c l h) ∙ is), length-append bytes more))

cut_four : (c : ℕ) (bytes more : List ℕ) → c < 1114112 → 65536 ≤ c → 0 < length bytes → 0 < length more → encode_utf8 c ≡ bytes ++ more → IsCut bytes c
cut_four c [] more h l some lacks is = absurd (omega (arith, some))
cut_four c (x ∷ []) more h l some lacks is =
    let all : (240 + c / 262144) ∷ next (c / 4096) ∷ next (c / 64) ∷ next c ∷ [] ≡ x ∷ more = sym (four c l) ∙ is in
    let e : 240 + c / 262144 ≡ x = cc all in
    record { no_fault = first_ok x (omega (arith, e)) (omega (arith, e)); long = width_four x (omega (arith, e)) ∙ sym (ap length (four c l)) }
cut_four c (x ∷ y ∷ []) more h l some lacks is =
    let all : (240 + c / 262144) ∷ next (c / 4096) ∷ next (c / 64) ∷ next c ∷ [] ≡ x ∷ y ∷ more = sym (four c l) ∙ is in
    let e : 240 + c / 262144 ≡ x = cc all in
    let f : next (c / 4096) ≡ y = cc all in
    record { no_fault = second_ok x y (omega (arith, e)) (omega (arith, e)) (second_of_four c x y h l e f); long = width_four x (omega (arith, e)) ∙ sym (ap length (four c l)) }
cut_four c (x ∷ y ∷ z ∷ []) more h l some lacks is =
    let all : (240 + c / 262144) ∷ next (c / 4096) ∷ next (c / 64) ∷ next c ∷ [] ≡ x ∷ y ∷ z ∷ more = sym (four c l) ∙ is in
    let e : 240 + c / 262144 ≡ x = cc all in
    let f : next (c / 4096) ≡ y = cc all in
    let g : next (c / 64) ≡ z = cc all in
    record {
      no_fault = third_ok x y z (omega (arith, e)) (omega (arith, e)) (second_of_four c x y h l e f) (omega (arith, g)) (omega (arith, g));
      long = width_four x (omega (arith, e)) ∙ sym (ap length (four c l));
    }
cut_four c (x ∷ y ∷ z ∷ w ∷ bytes) more h l some lacks is = absurd (omega (arith, lacks, ap length (sym (four c l) ∙ is), length-append bytes more))

pub cut_is : (c : ℕ) (bytes more : List ℕ) → IsScalar c → 0 < length bytes → 0 < length more → encode_utf8 c ≡ bytes ++ more → IsCut bytes c
cut_is c bytes more s some lacks is = by_length (scalar_cases c s) (order c 128) (order c 2048) (order c 65536)
  where
    by_length : (c < 55296) ⊎ ((57344 ≤ c) × (c < 1114112)) → (c < 128) ⊎ (128 ≤ c) → (c < 2048) ⊎ (2048 ≤ c) → (c < 65536) ⊎ (65536 ≤ c) → IsCut bytes c
    by_length k (inl p) _ _ = absurd (omega (arith, some, lacks, ap length (sym (one c p) ∙ is), length-append bytes more))
    by_length k (inr p) (inl q) _ = cut_two c bytes more p q some lacks is
    by_length k (inr p) (inr q) (inl r) = cut_three c bytes more k q r some lacks is
    by_length k (inr p) (inr q) (inr r) = cut_four c bytes more (scalar_below c s) r some lacks is
