-- Equal bytes begin with one value, for each field.
use Rattle.std.proofs.Common.{◌≡◌, ℕ, ◌<◌, ◌≤◌, List, [], ◌∷◌, ◌++◌, length, refl, ap, sym, ◌∙◌, append_assoc, arith}
use Rattle.std.specs.Prelude.{All, Option, Some, None, flat_map}
use Rattle.std.specs.Int.{to_be_bytes, from_be_bytes, w16, w32, byte_at}
use Rattle.std.specs.Str.{encode_utf8_all}
use Rattle.std.proofs.lemmas.Nat.{from_be_bytes-to_be_bytes_4, from_be_bytes-to_be_bytes_2}
use Rattle.std.proofs.lemmas.Str.{encodes_same}
use Rattle.std.specs.Char.{IsScalar}
use Rattle.std.proofs.lemmas.Bool.Decides.{nat_tests}
use Rattle.std.proofs.lemmas.List.Elements.{All-head, All-tail}
use Rattle.fugue_ids.specs.Identifiers.{Identifier}
use Rattle.origin_model.specs.frames.Frames.{id_bytes, scalar_bytes}
use Rattle.op_frame.proofs.FormatLemmas.{Format, IsCode, body, byte, code_join, identifier, names, number, origin, replica, run_text, scalar, title}

-- fronts of one length are the same
pub same_fronts : {X : Type 0} (xs ys r s : List X) → length xs ≡ length ys → xs ++ r ≡ ys ++ s → (xs ≡ ys) × (r ≡ s)
same_fronts [] [] r s long same = (refl, same)
same_fronts [] (y ∷ ys) r s long same = absurd (omega (arith, long))
same_fronts (x ∷ xs) [] r s long same = absurd (omega (arith, long))
same_fronts (x ∷ xs) (y ∷ ys) r s long same =
    let first : x ≡ y = cc same in
    let behind : xs ++ r ≡ ys ++ s = cc same in
    let both = same_fronts xs ys r s (omega (arith, long)) behind in
    ((λ i. first i ∷ both.0 i), both.1)

pub number_code : IsCode number
number_code = record {
  once = λ v w r s p q same.
      let both = same_fronts (to_be_bytes w32 v) (to_be_bytes w32 w) r s refl same in
      (sym (from_be_bytes-to_be_bytes_4 v p) ∙ ap (from_be_bytes w32) both.0 ∙ from_be_bytes-to_be_bytes_4 w q, both.1);
}

pub replica_code : IsCode replica
replica_code = record { once = λ v w r s p q same. number_code.once v w r s p.1 q.1 same }

pub identifier_code : IsCode identifier
identifier_code = record {
  once = λ v w r s p q same.
      let halves = (code_join replica number replica_code number_code).once (v.replica, v.counter) (w.replica, w.counter) r s
      ((p.some_replica, p.replica_fits), p.counter_fits) ((q.some_replica, q.replica_fits), q.counter_fits) same in
      ((λ i. record { replica = (halves.0 i).0; counter = (halves.0 i).1 }), halves.1);
}

origin_once : (v w : Option Identifier) (r s : List ℕ) → origin.valid v → origin.valid w → origin.spelling v ++ r ≡ origin.spelling w ++ s → (v ≡ w) × (r ≡ s)
origin_once None None r s p q same = (refl, cc same)
origin_once None (Some w) r s p q same = absurd (cc same)
origin_once (Some v) None r s p q same = absurd (cc same)
origin_once (Some v) (Some w) r s p q same =
    let behind : id_bytes v ++ r ≡ id_bytes w ++ s = cc same in
    let both = identifier_code.once v w r s p q behind in
    (ap Some both.0, both.1)

pub origin_code : IsCode origin
origin_code = record { once = origin_once }

-- a scalar has three bytes
pub scalar_below : (c : ℕ) → IsScalar c → c < 1114112
scalar_below c h = grind (arith, nat_tests)

pub scalar_top : (c : ℕ) → IsScalar c → byte_at 3 c ≡ 0
scalar_top c h = omega (arith, scalar_below c h)

pub scalar_code : IsCode scalar
scalar_code = record {
  once = λ v w r s p q same.
      let low = same_fronts (scalar_bytes v) (scalar_bytes w) r s refl same in
      let whole : to_be_bytes w32 v ≡ to_be_bytes w32 w = λ i. (scalar_top v p ∙ sym (scalar_top w q)) i ∷ low.0 i in
      ((number_code.once v w [] [] (omega (arith, scalar_below v p)) (omega (arith, scalar_below w q)) (ap (λ (l : List ℕ). l ++ []) whole)).0, low.1);
}

-- a length in two bytes
pub length_once : (v w : ℕ) (r s : List ℕ) → v ≤ 1024 → w ≤ 1024 → to_be_bytes w16 v ++ r ≡ to_be_bytes w16 w ++ s → (v ≡ w) × (r ≡ s)
length_once v w r s p q same =
    let both = same_fronts (to_be_bytes w16 v) (to_be_bytes w16 w) r s refl same in
    (sym (from_be_bytes-to_be_bytes_2 v (omega (arith, p))) ∙ ap (from_be_bytes w16) both.0 ∙ from_be_bytes-to_be_bytes_2 w (omega (arith, q)), both.1)

pub title_code : IsCode title
title_code = record {
  once = λ v w r s p q same.
      let flat = sym (append_assoc (to_be_bytes w16 (length (encode_utf8_all v))) (encode_utf8_all v) r) ∙ same
      ∙ append_assoc (to_be_bytes w16 (length (encode_utf8_all w))) (encode_utf8_all w) s in
      let heads = length_once (length (encode_utf8_all v)) (length (encode_utf8_all w)) (encode_utf8_all v ++ r) (encode_utf8_all w ++ s) (omega (arith, p.text.short))
      (omega (arith, q.text.short)) flat in
      let texts = same_fronts (encode_utf8_all v) (encode_utf8_all w) r s heads.0 heads.1 in
      (encodes_same v w texts.0, texts.1);
}

-- as many values of one format
several_once : {T : Type 0} (F : Format T) → IsCode F → (v w : List T) (r s : List ℕ) → length v ≡ length w → All F.valid v → All F.valid w
    → flat_map F.spelling v ++ r ≡ flat_map F.spelling w ++ s → (v ≡ w) × (r ≡ s)
several_once F code [] [] r s long p q same = (refl, same)
several_once F code [] (d ∷ w) r s long p q same = absurd (omega (arith, long))
several_once F code (c ∷ v) [] r s long p q same = absurd (omega (arith, long))
several_once F code (c ∷ v) (d ∷ w) r s long p q same =
    let first = code.once c d (flat_map F.spelling v ++ r) (flat_map F.spelling w ++ s) (All-head F.valid c v p) (All-head F.valid d w q)
    (sym (append_assoc (F.spelling c) (flat_map F.spelling v) r) ∙ same ∙ append_assoc (F.spelling d) (flat_map F.spelling w) s) in
    let behind = several_once F code v w r s (omega (arith, long)) (All-tail F.valid c v p) (All-tail F.valid d w q) first.1 in
    ((λ i. first.0 i ∷ behind.0 i), behind.1)

pub run_text_code : IsCode run_text
run_text_code = record {
  once = λ v w r s p q same.
      let flat = sym (append_assoc (to_be_bytes w16 (length v)) (flat_map scalar_bytes v) r) ∙ same ∙ append_assoc (to_be_bytes w16 (length w)) (flat_map scalar_bytes w) s in
      let heads = length_once (length v) (length w) (flat_map scalar_bytes v ++ r) (flat_map scalar_bytes w ++ s) p.short q.short flat in
      several_once scalar scalar_code v w r s heads.0 p.scalars q.scalars heads.1;
}

pub byte_code : IsCode byte
byte_code = record { once = λ v w r s p q same. (cc same, cc same) }

pub names_code : IsCode names
names_code = record {
  once = λ v w r s p q same.
      let long : length v ≡ length w = cc same in
      let behind : flat_map id_bytes v ++ r ≡ flat_map id_bytes w ++ s = cc same in
      several_once identifier identifier_code v w r s long p.identifiers q.identifiers behind;
}

pub body_code : IsCode body
body_code = record {
  once = λ v w r s p q same.
      let flat = sym (append_assoc (to_be_bytes w16 (length v)) v r) ∙ same ∙ append_assoc (to_be_bytes w16 (length w)) w s in
      let heads = length_once (length v) (length w) (v ++ r) (w ++ s) p.short q.short flat in
      same_fronts v w r s heads.0 heads.1;
}
