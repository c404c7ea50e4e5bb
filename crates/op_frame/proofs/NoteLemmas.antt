-- What is due after some bytes of a note's names, of its code, or of its body.
use Rattle.std.proofs.Common.{◌≡◌, ℕ, zero, suc, ◌-◌, ◌*◌, ◌+◌, ◌≤◌, List, [], ◌∷◌, ◌++◌, length, get_or, refl, ap, sym, subst, ◌∙◌, arith, length-append}
use Rattle.std.specs.Prelude.{◌↔◌, All, flat_map}
use Rattle.std.specs.Int.{to_be_bytes, w16}
use Rattle.std.proofs.lemmas.List.Elements.{All-append, All-cons, All-nil, All-tail}
use Rattle.fugue_ids.specs.declared.limits.TheConstants.{LONGEST_BODY, MOST_NAMES}
use Rattle.origin_model.specs.frames.Frames.{IsBody, IsByte, id_bytes, names_bytes}
use Rattle.op_frame.specs.FrameFronts.{AreNamesBytes, Completes, IsBodyBytes, IsBodyEnd, IsCodeBytes, IsDueFront, IsIdentifierBytes, IsSoundDue, LeavesDue, Several, Then, body_due}
use Rattle.op_frame.specs.declared.due.Due.TheVariants.{Fields}
use Rattle.op_frame.specs.declared.due.Last.TheVariants.{Body, Code, Length, Names}
use Rattle.op_frame.proofs.CodeLemmas.{byte_code, length_once}
use Rattle.op_frame.proofs.FieldLemmas.{AreBytes, bytes_of_count}
use Rattle.op_frame.proofs.FormatLemmas.{byte, field_done, identifier, several_of, values_of}
use Rattle.std.proofs.lemmas.List.{nil_from_length}

-- n bytes 0
abbrev pub blanks : ℕ → List ℕ
blanks zero = []
blanks (suc n) = 0 ∷ blanks n

blanks_bytes : (n : ℕ) → All IsByte (blanks n)
blanks_bytes zero = All-nil IsByte
blanks_bytes (suc n) = All-cons IsByte 0 (blanks n) (omega arith) (blanks_bytes n)

blanks_long : (n : ℕ) → length (blanks n) ≡ n
blanks_long zero = refl
blanks_long (suc n) = ap suc (blanks_long n)

pub blanks_end : (n : ℕ) → IsBodyEnd n (blanks n)
blanks_end n = (blanks_bytes n, blanks_long n)

-- a note without names, with the code 0 and an empty body
pub empty_body : IsBody []
empty_body = record { short = omega arith; bytes = All-nil IsByte }

pub no_code : Then IsCodeBytes IsBodyBytes (0 ∷ 0 ∷ 0 ∷ [])
no_code = (0 ∷ [], 0 ∷ 0 ∷ [], (0, omega arith, refl), ([], empty_body, refl), refl)

pub no_names : Then AreNamesBytes (Then IsCodeBytes IsBodyBytes) (0 ∷ 0 ∷ 0 ∷ 0 ∷ [])
no_names = (0 ∷ [], 0 ∷ 0 ∷ 0 ∷ [], ([], record { few = omega arith; identifiers = All-nil _ }, refl), no_code, refl)

-- how many identifiers a note names
pub names_done : (count : ℕ) → count ≤ MOST_NAMES → LeavesDue (count ∷ []) (Fields 0 0 Names) (Fields count 0 Code)
names_done count few = record {
  rest = λ more. (
    λ t.
        let is : count ∷ more ≡ length t.2.0 ∷ (flat_map id_bytes t.2.0 ++ t.1) = t.4 ∙ ap (λ (f : List ℕ). f ++ t.1) t.2.2 in
        let long : length t.2.0 ≡ count = sym (cc is) in
        let split : flat_map id_bytes t.2.0 ++ t.1 ≡ more = sym (cc is) in
        subst (Several count IsIdentifierBytes (Then IsCodeBytes IsBodyBytes)) split
        (subst (λ (n : ℕ). Several n IsIdentifierBytes (Then IsCodeBytes IsBodyBytes) (flat_map id_bytes t.2.0 ++ t.1)) long
        (several_of identifier (Then IsCodeBytes IsBodyBytes) t.2.0 t.1 t.2.1.identifiers t.3)),
    λ t.
        let p = values_of identifier (Then IsCodeBytes IsBodyBytes) count more t in (
          names_bytes p.values,
          p.rest,
          (p.values, record { few = omega (arith, p.long, few); identifiers = p.valid }, refl),
          p.behind,
          λ i. sym p.long i ∷ p.is i,
        ),
  );
  sound = tt;
}

-- each byte is a code
pub code_done : (code : ℕ) → IsByte code → LeavesDue (code ∷ []) (Fields 0 0 Code) (Fields 0 0 Length)
code_done code is = record { rest = field_done byte byte_code IsBodyBytes (code ∷ []) (code, is, refl); sound = tt }

-- where no body is due nothing is
body_is : (len : ℕ) (more : List ℕ) → IsBodyEnd len more ↔ Completes (body_due len) more
body_is zero more = (λ e. nil_from_length more e.1, λ none. subst (IsBodyEnd 0) (sym none) (All-nil IsByte, refl))
body_is (suc len) more = (λ e. e, λ e. e)

body_sound : (len : ℕ) → len ≤ LONGEST_BODY → IsSoundDue (body_due len)
body_sound zero short = tt
body_sound (suc len) short = (omega arith, short)

-- the length of a body
pub body_length_done : (bytes : List ℕ) (len : ℕ) → length bytes ≡ 2 → to_be_bytes w16 len ≡ get_or bytes 0 0 ∷ get_or bytes 1 0 ∷ [] → len ≤ LONGEST_BODY
    → LeavesDue bytes (Fields 0 0 Length) (body_due len)
body_length_done (h ∷ l ∷ []) len long is short = record {
  rest = λ more. (
    λ t.
        let both = length_once len (length t.0) more t.0 short t.1.short (ap (λ (b : List ℕ). b ++ more) is ∙ t.2) in
        (body_is len more).0 (subst (All IsByte) (sym both.1) t.1.bytes, ap length both.1 ∙ sym both.0),
    λ c.
        let e = (body_is len more).1 c in
        (more, record { short = omega (arith, e.1, short); bytes = e.0 }, ap (λ (b : List ℕ). b ++ more) (sym is) ∙ ap (λ (n : ℕ). to_be_bytes w16 n ++ more) (sym e.1)),
  );
  sound = body_sound len short;
}
body_length_done [] len long is short = absurd (omega (arith, long))
body_length_done (h ∷ []) len long is short = absurd (omega (arith, long))
body_length_done (h ∷ l ∷ x ∷ b) len long is short = absurd (omega (arith, long))

-- its first byte
pub body_high_front : (bytes : List ℕ) → length bytes ≡ 1 → get_or bytes 0 0 * 256 ≤ LONGEST_BODY → IsDueFront (Fields 0 0 Length) bytes
body_high_front [] long few = absurd (omega (arith, long))
body_high_front (high ∷ low ∷ b) long few = absurd (omega (arith, long))
body_high_front (high ∷ []) long few =
    let n : ℕ = high * 256 + 0 in
    record {
      more = 0 ∷ blanks n;
      lacks = omega arith;
      completes = (
        blanks n,
        record { short = omega (arith, blanks_long n, few); bytes = blanks_bytes n },
        ap (λ (l : List ℕ). l ++ blanks n) (sym (bytes_of_count high 0 (omega (arith, few)) (omega arith))) ∙ ap (λ (k : ℕ). to_be_bytes w16 k ++ blanks n) (sym (blanks_long n)),
      );
    }

-- some bytes of a body
pub all_bytes : (b : List ℕ) → AreBytes b → All IsByte b
all_bytes [] fits = All-nil IsByte
all_bytes (x ∷ b) fits = All-cons IsByte x b (fits 0) (all_bytes b (λ i. fits (suc i)))

bytes_after : (b more : List ℕ) → All IsByte (b ++ more) → All IsByte more
bytes_after [] more all = all
bytes_after (x ∷ b) more all = bytes_after b more (All-tail IsByte x (b ++ more) all)

pub body_done : (bytes : List ℕ) (len : ℕ) → AreBytes bytes → length bytes ≤ len → len ≤ LONGEST_BODY → LeavesDue bytes (Fields 0 0 (Body len)) (body_due (len - length bytes))
body_done bytes len fits short most = record {
  rest = λ more. (
    λ e. (body_is (len - length bytes) more).0 (bytes_after bytes more e.0, omega (arith, e.1, length-append bytes more)),
    λ c.
        let e = (body_is (len - length bytes) more).1 c in
        (All-append IsByte bytes more (all_bytes bytes fits) e.0, omega (arith, e.1, short, length-append bytes more)),
  );
  sound = body_sound (len - length bytes) (omega (arith, most));
}
