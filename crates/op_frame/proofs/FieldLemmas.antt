-- Fields that some bytes are, begin, or are not.
use Rattle.std.proofs.Common.{◌≡◌, ℕ, suc, zero, ◌+◌, ◌*◌, ◌<◌, ◌≤◌, List, [], ◌∷◌, ◌++◌, length, drop, refl, ap, sym, ◌∙◌, arith, append_assoc, get_or, length-append, length-drop}
use Rattle.std.specs.Prelude.{Option, Some, None, SomeIff, flat_map, is_some, true, ◌^◌}
use Rattle.std.specs.Int.{to_be_bytes, w16, w32, byte_at}
use Rattle.std.proofs.lemmas.List.{get_or-drop}
use Rattle.fugue_ids.specs.Identifiers.{Identifier}
use Rattle.origin_model.specs.frames.Frames.{IsIdentifier, id_bytes, scalar_bytes}
use Rattle.op_frame.specs.FrameFronts.{scalar_of_bytes}

abbrev pub AreBytes : List ℕ → Type 0
AreBytes b = (i : ℕ) → get_or b i 0 < 256

-- the bytes of a number of four bytes
bytes_of_number : (a b c d : ℕ) → a < 256 → b < 256 → c < 256 → d < 256 → to_be_bytes w32 (a * 16777216 + b * 65536 + c * 256 + d) ≡ a ∷ b ∷ c ∷ d ∷ []
bytes_of_number a b c d p q r s =
    let e3 : byte_at 3 (a * 16777216 + b * 65536 + c * 256 + d) ≡ a = omega arith in
    let e2 : byte_at 2 (a * 16777216 + b * 65536 + c * 256 + d) ≡ b = omega arith in
    let e1 : byte_at 1 (a * 16777216 + b * 65536 + c * 256 + d) ≡ c = omega arith in
    let e0 : byte_at 0 (a * 16777216 + b * 65536 + c * 256 + d) ≡ d = omega arith in
    λ i. e3 i ∷ e2 i ∷ e1 i ∷ e0 i ∷ []

-- some bytes with others after them are those of a number
pub record NumberWith (b more : List ℕ) : Type 0 where
  pub number : ℕ
  pub small : number < 2 ^ 32
  pub is : b ++ more ≡ to_be_bytes w32 number

abbrev four_bytes : (b more : List ℕ) (w x y z : ℕ) → b ++ more ≡ w ∷ x ∷ y ∷ z ∷ [] → w < 256 → x < 256 → y < 256 → z < 256 → NumberWith b more
four_bytes b more w x y z is p q r s =
    record { number = w * 16777216 + x * 65536 + y * 256 + z; small = omega arith; is = is ∙ sym (bytes_of_number w x y z p q r s) }

pub four_there : (b : List ℕ) → length b ≡ 4 → AreBytes b → NumberWith b []
four_there (w ∷ x ∷ y ∷ z ∷ []) long fits = four_bytes (w ∷ x ∷ y ∷ z ∷ []) [] w x y z refl (fits 0) (fits 1) (fits 2) (fits 3)
four_there [] long fits = absurd (omega (arith, long))
four_there (w ∷ []) long fits = absurd (omega (arith, long))
four_there (w ∷ x ∷ []) long fits = absurd (omega (arith, long))
four_there (w ∷ x ∷ y ∷ []) long fits = absurd (omega (arith, long))
four_there (w ∷ x ∷ y ∷ z ∷ v ∷ b) long fits = absurd (omega (arith, long))

-- fewer than four bytes are a front of a number that is not 0, and has one after it
pub record NumberFront (b : List ℕ) : Type 0 where
  pub more : List ℕ
  pub lacks : 0 < length more
  pub whole : NumberWith b more
  pub some : 0 < whole.number
  pub early : whole.number + 2 ≤ 2 ^ 32

with_one : (b more : List ℕ) (w x y : ℕ) → b ++ more ≡ w ∷ x ∷ y ∷ 1 ∷ [] → 0 < length more → w < 256 → x < 256 → y < 256 → NumberFront b
with_one b more w x y is lacks p q r = record { more = more; lacks = lacks; whole = four_bytes b more w x y 1 is p q r (omega arith); some = omega arith; early = omega arith }

pub short_number : (b : List ℕ) → length b < 4 → AreBytes b → NumberFront b
short_number [] short fits = with_one [] (1 ∷ 1 ∷ 1 ∷ 1 ∷ []) 1 1 1 refl (omega arith) (omega arith) (omega arith) (omega arith)
short_number (w ∷ []) short fits = with_one (w ∷ []) (1 ∷ 1 ∷ 1 ∷ []) w 1 1 refl (omega arith) (fits 0) (omega arith) (omega arith)
short_number (w ∷ x ∷ []) short fits = with_one (w ∷ x ∷ []) (1 ∷ 1 ∷ []) w x 1 refl (omega arith) (fits 0) (fits 1) (omega arith)
short_number (w ∷ x ∷ y ∷ []) short fits = with_one (w ∷ x ∷ y ∷ []) (1 ∷ []) w x y refl (omega arith) (fits 0) (fits 1) (fits 2)
short_number (w ∷ x ∷ y ∷ z ∷ b) short fits = absurd (omega (arith, short))

-- some bytes with others after them are those of an identifier
pub record IdentifierWith (b more : List ℕ) : Type 0 where
  pub id : Identifier
  pub is_identifier : IsIdentifier id
  pub is : b ++ more ≡ id_bytes id

-- a replica, and then a counter
pub id_with : (b more r behind : List ℕ) (n : ℕ) → 0 < n → n < 2 ^ 32 → b ++ more ≡ to_be_bytes w32 n ++ (r ++ behind) → NumberWith r behind → IdentifierWith b more
id_with b more r behind n some small is p = record {
  id = record { replica = n; counter = p.number };
  is_identifier = record { some_replica = some; replica_fits = small; counter_fits = p.small };
  is = is ∙ ap (λ c. to_be_bytes w32 n ++ c) p.is;
}

-- bytes after the first four
pub after_four : (b : List ℕ) → AreBytes b → AreBytes (drop 4 b)
after_four b fits i = omega (arith, fits (4 + i), get_or-drop 4 b i 0)

-- an identifier of which a byte lacks at least, and of which there is a next one
pub record IdentifierFront (b : List ℕ) : Type 0 where
  pub more : List ℕ
  pub lacks : 0 < length more
  pub whole : IdentifierWith b more
  pub early : whole.id.counter + 2 ≤ 2 ^ 32

pub replica_cut : (b : List ℕ) → length b < 4 → AreBytes b → IdentifierFront b
unfolding id_with
replica_cut b short fits =
    let p = short_number b short fits in
    record {
      more = p.more ++ to_be_bytes w32 0;
      lacks = omega (arith, length-append p.more (to_be_bytes w32 0), p.lacks);
      whole = id_with b (p.more ++ to_be_bytes w32 0) (to_be_bytes w32 0) [] p.whole.number p.some p.whole.small
          (sym (append_assoc b p.more (to_be_bytes w32 0)) ∙ ap (λ c. c ++ to_be_bytes w32 0) p.whole.is) (record { number = 0; small = omega arith; is = refl });
      early = omega arith;
    }

pub counter_cut : (b : List ℕ) (n : ℕ) → b ≡ to_be_bytes w32 n ++ drop 4 b → 0 < n → n < 2 ^ 32 → length b < 8 → AreBytes b → IdentifierFront b
unfolding id_with
counter_cut b n is some small short fits =
    let p = short_number (drop 4 b) (omega (arith, short, length-drop 4 b)) (after_four b fits) in
    record {
      more = p.more;
      lacks = p.lacks;
      whole = id_with b p.more (drop 4 b) p.more n some small (ap (λ c. c ++ p.more) is ∙ append_assoc (to_be_bytes w32 n) (drop 4 b) p.more) p.whole;
      early = p.early;
    }

pub id_there : (b : List ℕ) (n : ℕ) → b ≡ to_be_bytes w32 n ++ drop 4 b → 0 < n → n < 2 ^ 32 → length b ≡ 8 → AreBytes b → IdentifierWith b []
id_there b n is some small long fits =
    id_with b [] (drop 4 b) [] n some small (ap (λ c. c ++ []) is ∙ append_assoc (to_be_bytes w32 n) (drop 4 b) [])
    (four_there (drop 4 b) (omega (arith, long, length-drop 4 b)) (after_four b fits))

-- the bytes of a number of three bytes
pub bytes_of_code : (h m l : ℕ) → h < 256 → m < 256 → l < 256 → scalar_bytes (scalar_of_bytes h m l) ≡ h ∷ m ∷ l ∷ []
bytes_of_code h m l p q r =
    let e2 : byte_at 2 (scalar_of_bytes h m l) ≡ h = omega arith in
    let e1 : byte_at 1 (scalar_of_bytes h m l) ≡ m = omega arith in
    let e0 : byte_at 0 (scalar_of_bytes h m l) ≡ l = omega arith in
    λ i. e2 i ∷ e1 i ∷ e0 i ∷ []

pub some_holds : {T : Type 0} (o : Option T) (P : Type 0) (v : T) → SomeIff o P v → is_some o ≡ true → P
some_holds None P v is some = absurd (cc some)
some_holds (Some x) P v is some = is.0

-- the two bytes of a count
pub bytes_of_count : (high low : ℕ) → high < 256 → low < 256 → to_be_bytes w16 (high * 256 + low) ≡ high ∷ low ∷ []
bytes_of_count high low p q =
    let e1 : byte_at 1 (high * 256 + low) ≡ high = omega arith in
    let e0 : byte_at 0 (high * 256 + low) ≡ low = omega arith in
    λ i. e1 i ∷ e0 i ∷ []

-- a count of 2 to so many, of which the second byte lacks
pub record CountFront (most high : ℕ) : Type 0 where
  pub low : ℕ
  pub some : 2 ≤ high * 256 + low
  pub few : high * 256 + low ≤ most
  pub is : to_be_bytes w16 (high * 256 + low) ≡ high ∷ low ∷ []

pub count_front : (most high : ℕ) → 2 ≤ most → high < 256 → high * 256 ≤ most → CountFront most high
count_front most zero some small few = record { low = 2; some = omega arith; few = some; is = bytes_of_count 0 2 (omega arith) (omega arith) }
count_front most (suc high) some small few =
    record { low = 0; some = omega arith; few = omega (arith, few); is = bytes_of_count (suc high) 0 small (omega arith) }

-- an identifier has eight bytes
pub length-identifiers : (ids : List Identifier) → length (flat_map id_bytes ids) ≡ 8 * length ids
length-identifiers [] = refl
length-identifiers (i ∷ ids) = omega (arith, length-identifiers ids, length-append (id_bytes i) (flat_map id_bytes ids))
