-- What stands after the first word of a line.
use Rattle.std.proofs.Common.{◌≡◌, ◌≢◌, inl, inr, ◌≤◌, ◌<◌, ◌+◌, ◌^◌, ℕ, zero, suc, nat_lt, true, List, [], ◌∷◌, ◌++◌, length, refl, sym, ap, subst, ◌∙◌, arith}
use Rattle.std.specs.Prelude.{decimal, codes, encode_utf8_all}
use Rattle.std.specs.List.{flat_map, list_all}
use lib.Utf8.{scalar}
use Rattle.std.specs.Char.{IsScalar}
use Rattle.std.specs.Str.{IsAscii, IsUtf8, all_scalars, chars}
use Rattle.std.proofs.lemmas.Str.{encodes-chars, encodes_same, scalars-chars, IsUtf8-append, IsUtf8-encode, IsUtf8-from_ascii, IsUtf8-nil}
use Rattle.std.proofs.lemmas.Bool.{and_parts, cases_Bool, cases_lt, ltb-true}
use Rattle.std.proofs.lemmas.Fmt.{IsAscii-decimal}
use Rattle.fugue_ids.specs.Titles.{IsTitleText, has_line_end}
use Rattle.fugue_ids.specs.declared.limits.TheConstants.{LONGEST_TITLE}
use Rattle.origin_model.specs.edits.Edits.{Command, Put, Cut, Add, DropSection}
use Rattle.edit_script.proofs.EscapeLemmas.{other_head, Written, line_end, backslash, plain, written}
use Rattle.edit_script.specs.Grammar.{Asks, IsWritable, escaped_scalar, command_line}
use Rattle.edit_script.specs.Forms.{form_word}
use Rattle.edit_script.specs.declared.edit.Form.{Form}
use Rattle.edit_script.specs.declared.edit.Form.TheVariants as form

pub form_of : Command → Form
form_of (Add at title) = form.Add
form_of (Put k at new) = form.Put
form_of (Cut k at n) = form.Cut
form_of (DropSection k) = form.Drop

-- a line begins with its form's word, and a space
pub begins_with_word : (line : List ℕ) (command : Command) → Asks line command → (rest : List ℕ) × (line ≡ form_word (form_of command) ++ 32 ∷ rest)
unfolding form_of
begins_with_word line (Add at title) asks = (_, asks.line_is)
begins_with_word line (Put k at new) asks = (_, asks.line_is)
begins_with_word line (Cut k at n) asks = (_, asks.line_is)
begins_with_word line (DropSection k) asks = (_, asks.line_is)

-- what stands after `add `
pub record AddsAt (rest : List ℕ) (command : Command) : Type 0 where
  pub at : ℕ
  pub title : List ℕ
  pub is : command ≡ Add at title
  pub small : at + 1 < 2 ^ 32
  pub is_title : IsTitleText (encode_utf8_all title)
  pub rest_is : rest ≡ decimal (at + 1) ++ 32 ∷ encode_utf8_all title

pub adds : (rest : List ℕ) (command : Command) → Asks (codes "add " ++ rest) command → AddsAt rest command
adds rest (Add at title) asks =
    let line : 97 ∷ 100 ∷ 100 ∷ 32 ∷ rest ≡ 97 ∷ 100 ∷ 100 ∷ 32 ∷ (decimal (at + 1) ++ 32 ∷ encode_utf8_all title) = asks.line_is in
    record { at = at; title = title; is = refl; small = asks.writable.0; is_title = asks.writable.2; rest_is = cc }
adds rest (Put k at new) asks = absurd (other_head 97 112 _ _ asks.line_is refl)
adds rest (Cut k at n) asks = absurd (other_head 97 99 _ _ asks.line_is refl)
adds rest (DropSection k) asks = absurd (other_head 97 100 _ _ asks.line_is refl)

-- what stands after `put `
pub record PutsAt (rest : List ℕ) (command : Command) : Type 0 where
  pub section : ℕ
  pub at : ℕ
  pub new : List ℕ
  pub is : command ≡ Put section at new
  pub small : section + 1 < 2 ^ 32
  pub place_small : at < 2 ^ 32
  pub some : new ≡ [] → ⊥
  pub rest_is : rest ≡ decimal (section + 1) ++ 32 ∷ (decimal at ++ 32 ∷ flat_map escaped_scalar new)

pub puts : (rest : List ℕ) (command : Command) → Asks (codes "put " ++ rest) command → PutsAt rest command
puts rest (Add at title) asks = absurd (other_head 112 97 _ _ asks.line_is refl)
puts rest (Put k at new) asks =
    let line : 112 ∷ 117 ∷ 116 ∷ 32 ∷ rest ≡ 112 ∷ 117 ∷ 116 ∷ 32 ∷ (decimal (k + 1) ++ 32 ∷ (decimal at ++ 32 ∷ flat_map escaped_scalar new)) = asks.line_is in
    record { section = k; at = at; new = new; is = refl; small = asks.writable.0; place_small = asks.writable.1; some = asks.writable.3; rest_is = cc }
puts rest (Cut k at n) asks = absurd (other_head 112 99 _ _ asks.line_is refl)
puts rest (DropSection k) asks = absurd (other_head 112 100 _ _ asks.line_is refl)

-- what stands after `cut `
pub record CutsAt (rest : List ℕ) (command : Command) : Type 0 where
  pub section : ℕ
  pub at : ℕ
  pub count : ℕ
  pub is : command ≡ Cut section at count
  pub small : section + 1 < 2 ^ 32
  pub place_small : at < 2 ^ 32
  pub count_small : count < 2 ^ 32
  pub rest_is : rest ≡ decimal (section + 1) ++ 32 ∷ (decimal at ++ 32 ∷ decimal count)

pub cuts : (rest : List ℕ) (command : Command) → Asks (codes "cut " ++ rest) command → CutsAt rest command
cuts rest (Add at title) asks = absurd (other_head 99 97 _ _ asks.line_is refl)
cuts rest (Put k at new) asks = absurd (other_head 99 112 _ _ asks.line_is refl)
cuts rest (Cut k at n) asks =
    let line : 99 ∷ 117 ∷ 116 ∷ 32 ∷ rest ≡ 99 ∷ 117 ∷ 116 ∷ 32 ∷ (decimal (k + 1) ++ 32 ∷ (decimal at ++ 32 ∷ decimal n)) = asks.line_is in
    record { section = k; at = at; count = n; is = refl; small = asks.writable.0; place_small = asks.writable.1; count_small = asks.writable.2; rest_is = cc }
cuts rest (DropSection k) asks = absurd (other_head 99 100 _ _ asks.line_is refl)

-- what stands after `drop `
pub record DropsIt (rest : List ℕ) (command : Command) : Type 0 where
  pub section : ℕ
  pub is : command ≡ DropSection section
  pub small : section + 1 < 2 ^ 32
  pub rest_is : rest ≡ decimal (section + 1)

pub drops : (rest : List ℕ) (command : Command) → Asks (codes "drop " ++ rest) command → DropsIt rest command
drops rest (Add at title) asks = absurd (other_head 100 97 _ _ asks.line_is refl)
drops rest (Put k at new) asks = absurd (other_head 100 112 _ _ asks.line_is refl)
drops rest (Cut k at n) asks = absurd (other_head 100 99 _ _ asks.line_is refl)
drops rest (DropSection k) asks =
    let line : 100 ∷ 114 ∷ 111 ∷ 112 ∷ 32 ∷ rest ≡ 100 ∷ 114 ∷ 111 ∷ 112 ∷ 32 ∷ decimal (k + 1) = asks.line_is in
    record { section = k; is = refl; small = asks.writable; rest_is = cc }

-- the scalars of a text that is UTF-8 are scalars
pub spelled_scalars : (text title : List ℕ) → IsUtf8 text → encode_utf8_all title ≡ text → all_scalars title ≡ true
spelled_scalars text title utf8 is =
    let same = encodes_same title (chars text) (is ∙ sym (encodes-chars text utf8)) in
    ap all_scalars same ∙ scalars-chars text utf8

pub add_asks : (rest text title : List ℕ) (at : ℕ) → rest ≡ decimal (at + 1) ++ 32 ∷ text → at + 1 < 2 ^ 32 → encode_utf8_all title ≡ text → all_scalars title ≡ true
    → IsTitleText text
    → Asks (codes "add " ++ rest) (Add at title)
add_asks rest text title at is small spelled scalars is_title =
    record {
      writable = (small, scalars, subst IsTitleText (sym spelled) is_title);
      line_is = ap (λ (l : List ℕ). 97 ∷ 100 ∷ 100 ∷ 32 ∷ l) (is ∙ ap (λ (l : List ℕ). decimal (at + 1) ++ 32 ∷ l) (sym spelled));
    }

pub put_asks : (rest text new : List ℕ) (k at : ℕ) → rest ≡ decimal (k + 1) ++ 32 ∷ (decimal at ++ 32 ∷ text) → k + 1 < 2 ^ 32 → at < 2 ^ 32 → text ≡ flat_map escaped_scalar new
    → all_scalars new ≡ true → (length text ≡ 0 → ⊥) → Asks (codes "put " ++ rest) (Put k at new)
put_asks rest text new k at is small place_small spelled scalars some =
    record {
      writable = (small, place_small, scalars, λ none. some (ap length spelled ∙ ap (λ (l : List ℕ). length (flat_map escaped_scalar l)) none));
      line_is = ap (λ (l : List ℕ). 112 ∷ 117 ∷ 116 ∷ 32 ∷ l) (is ∙ ap (λ (l : List ℕ). decimal (k + 1) ++ 32 ∷ (decimal at ++ 32 ∷ l)) spelled);
    }

-- a text that is refused for no cause is a title's
pub is_title_text : (text : List ℕ) → (text ≡ [] → ⊥) → (LONGEST_TITLE < length text → ⊥)
    → ((text ≢ []) × (length text ≤ LONGEST_TITLE) × (has_line_end text ≡ true) → ⊥) → IsTitleText text
is_title_text [] some short one_line = absurd (some refl)
is_title_text (byte ∷ text) some short one_line =
    let fits : length (byte ∷ text) ≤ LONGEST_TITLE = elim (cases_lt LONGEST_TITLE (length (byte ∷ text))) [ inl long ↦ absurd (short long) | inr fits ↦ fits ] in
    record {
      some = omega arith;
      short = fits;
      one_line = elim (cases_Bool (has_line_end (byte ∷ text))) [ inl ends ↦ absurd (one_line (some, fits, ends)) | inr line ↦ line ];
    }

ascii_if : (bytes : List ℕ) → list_all (λ (b : ℕ). nat_lt b 128) bytes ≡ true → IsAscii bytes
ascii_if [] all i = omega arith
ascii_if (byte ∷ bytes) all zero = ltb-true byte 128 ((and_parts (nat_lt byte 128) (list_all (λ (b : ℕ). nat_lt b 128) bytes) all).0)
ascii_if (byte ∷ bytes) all (suc i) = ascii_if bytes ((and_parts (nat_lt byte 128) (list_all (λ (b : ℕ). nat_lt b 128) bytes) all).1) i

-- an ASCII word, a space and a text are a text
utf8_after : (word rest : List ℕ) → IsAscii word → IsUtf8 rest → IsUtf8 (word ++ 32 ∷ rest)
utf8_after word rest ascii utf8 =
    IsUtf8-append word (32 ∷ rest) (IsUtf8-from_ascii word ascii) (IsUtf8-append (32 ∷ []) rest (IsUtf8-from_ascii (32 ∷ []) (ascii_if (32 ∷ []) refl)) utf8)

utf8_decimal : (n : ℕ) → n < 2 ^ 64 → IsUtf8 (decimal n)
utf8_decimal n small = IsUtf8-from_ascii (decimal n) (IsAscii-decimal n small)

utf8_written : (ch : ℕ) → Written ch → IsScalar ch → IsUtf8 (escaped_scalar ch)
utf8_written ch (line_end i e) is = subst IsUtf8 (sym e) (IsUtf8-from_ascii (92 ∷ 110 ∷ []) (ascii_if (92 ∷ 110 ∷ []) refl))
utf8_written ch (backslash i e) is = subst IsUtf8 (sym e) (IsUtf8-from_ascii (92 ∷ 92 ∷ []) (ascii_if (92 ∷ 92 ∷ []) refl))
utf8_written ch (plain i j e) is = subst IsUtf8 (sym e) (IsUtf8-encode ch is)

utf8_text : (new : List ℕ) → all_scalars new ≡ true → IsUtf8 (flat_map escaped_scalar new)
utf8_text [] all = IsUtf8-nil
utf8_text (ch ∷ new) all =
    let parts = and_parts (scalar ch) (all_scalars new) all in
    IsUtf8-append (escaped_scalar ch) (flat_map escaped_scalar new) (utf8_written ch (written ch) parts.0) (utf8_text new parts.1)

utf8_line : (command : Command) → IsWritable command → IsUtf8 (command_line command)
utf8_line (Add at title) can =
    utf8_after (codes "add") _ (ascii_if (codes "add") refl) (utf8_after (decimal (at + 1)) _ (IsAscii-decimal (at + 1) (omega (arith, can.0))) (title, (can.1, refl)))
utf8_line (Put k at new) can =
    utf8_after (codes "put") _ (ascii_if (codes "put") refl) (utf8_after (decimal (k + 1)) _ (IsAscii-decimal (k + 1) (omega (arith, can.0)))
    (utf8_after (decimal at) _ (IsAscii-decimal at (omega (arith, can.1))) (utf8_text new can.2)))
utf8_line (Cut k at n) can =
    utf8_after (codes "cut") _ (ascii_if (codes "cut") refl) (utf8_after (decimal (k + 1)) _ (IsAscii-decimal (k + 1) (omega (arith, can.0)))
    (utf8_after (decimal at) _ (IsAscii-decimal at (omega (arith, can.1))) (utf8_decimal n (omega (arith, can.2)))))
utf8_line (DropSection k) can = utf8_after (codes "drop") _ (ascii_if (codes "drop") refl) (utf8_decimal (k + 1) (omega (arith, can)))

-- a line that asks for an edit is UTF-8
pub asks_utf8 : (line : List ℕ) (command : Command) → Asks line command → IsUtf8 line
asks_utf8 line command asks = subst IsUtf8 (sym asks.line_is) (utf8_line command asks.writable)
