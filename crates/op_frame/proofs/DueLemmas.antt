-- What is due after some bytes of a frame, field by field.
use Rattle.std.proofs.Common.{◌≡◌, ℕ, zero, suc, ◌+◌, ◌-◌, ◌*◌, ◌<◌, ◌≤◌, false, List, [], ◌∷◌, ◌++◌, length, drop, get_or, refl, ap, sym, subst, ◌∙◌, ◌⊎◌, append_assoc, arith}
use Rattle.std.proofs.Common.{inl, inr, length-append, length-drop, take}
use Rattle.std.specs.Prelude.{◌↔◌, ◌^◌, All, Option, Some, None, SomeIff, is_some, flat_map}
use Rattle.std.specs.Char.{IsScalar}
use Rattle.std.specs.Int.{byte_at, to_be_bytes, w16, w32}
use Rattle.std.specs.Str.{IsUtf8, chars, encode_utf8_all}
use Rattle.std.proofs.Math.Seq.{drop-append_seam, take-add, take-append_seam}
use Rattle.std.proofs.lemmas.Bool.{or_from, or_parts}
use Rattle.std.proofs.lemmas.Bool.Decides.{nat_tests}
use Rattle.std.proofs.lemmas.List.{append-nil, get_or-drop, length-take-le, nil_from_length}
use Rattle.std.proofs.lemmas.List.Folds.{list_any-append}
use Rattle.std.proofs.lemmas.Str.{encodes-chars, IsCharBoundary-from_take, IsUtf8-append, IsUtf8-drop, IsUtf8-nil}
use Rattle.fugue_ids.specs.Identifiers.{Identifier}
use Rattle.fugue_ids.specs.Titles.{ends_line, has_line_end}
use Rattle.fugue_ids.specs.declared.limits.TheConstants.{LONGEST_TITLE}
use Rattle.fugue_ids.specs.declared.op.Op.TheVariants.{Delete, Note, Section, Text as TextOp}
use Rattle.origin_model.specs.declared.grammar.Grammar.{Grammar}
use Rattle.origin_model.specs.declared.grammar.Grammar.TheVariants.{Version2}
use Rattle.origin_model.specs.frames.Frames.{HasRunFrame, IsIdentifier, IsItem, Item, Run as RunOf, Single, Typed, body_bytes, frame, id_bytes, item_bytes, names_bytes}
use Rattle.origin_model.specs.frames.Frames.{origin_bytes, run_frame, scalar_bytes, text_bytes, title_bytes}
use Rattle.op_frame.specs.FrameFronts.{AreFields, Completes, IsCounted, IsDueFront, IsIdentifierBytes, IsJudged, IsLast, IsNothing, IsOriginBytes, IsRunAfter, IsScalarBytes}
use Rattle.op_frame.specs.FrameFronts.{IsSoundDue, IsSoundLast, IsTitleEnd, LeavesDue, NeverCompletes, Several, Then, scalar_of_bytes, grown_by, most_from, scalars_due, text_due}
use Rattle.op_frame.specs.declared.due.Due.{Due}
use Rattle.op_frame.specs.declared.due.Due.TheVariants.{Fields, Kind, Run}
use Rattle.op_frame.specs.declared.due.Judged.TheVariants.{Front}
use Rattle.op_frame.specs.declared.due.Last.{Last}
use Rattle.op_frame.specs.declared.due.Last.TheVariants.{Body, Code, Count, Length, Names, Nothing, Scalars, Text, Title}
use Rattle.op_frame.specs.declared.grown.Grown.TheVariants.{Frame as IsWhole, Front as IsFrontGrown}
use Rattle.op_frame.proofs.CodeLemmas.{identifier_code, length_once, scalar_below, scalar_code}
use Rattle.op_frame.proofs.FieldLemmas.{AreBytes, IdentifierFront, IdentifierWith, bytes_of_code, count_front}
use Rattle.op_frame.proofs.FormatLemmas.{field_done, identifier, scalar, several_of, values_of}
use Rattle.op_frame.proofs.ItemLemmas.{has_frame, of_each_version, run_is}
use Rattle.op_frame.proofs.NoteLemmas.{blanks, blanks_end, empty_body, no_code, no_names}
use Rattle.op_frame.proofs.ReadingLemmas.{first_id, first_is_one}
use Rattle.op_frame.proofs.TitleLemmas.{letters, letters_end, title_end, title_in}

-- a title's bytes
title_spelled : (len : ℕ) (bytes : List ℕ) → IsTitleEnd len bytes → to_be_bytes w16 len ++ bytes ≡ title_bytes (chars bytes)
title_spelled len bytes e =
    let same : encode_utf8_all (chars bytes) ≡ bytes = encodes-chars bytes e.0 in
    λ i. to_be_bytes w16 ((sym e.2 ∙ ap length (sym same)) i) ++ sym same i

letters_title : (n : ℕ) → 0 < n → n ≤ LONGEST_TITLE → IsLast Title (to_be_bytes w16 n ++ letters n)
letters_title n some short = (chars (letters n), title_in n (letters n) some short (letters_end n), title_spelled n (letters n) (letters_end n))

-- there are bytes that are due: none after a frame, and some where it is not whole
pub record Sample (due : Due) : Type 0 where
  pub bytes : List ℕ
  pub completes : Completes due bytes
  pub ends : (grown_by due ≡ IsWhole) × (bytes ≡ []) ⊎ (grown_by due ≡ IsFrontGrown) × (0 < length bytes)

-- so many scalars 0
abbrev zero_scalars : ℕ → List ℕ
zero_scalars zero = []
zero_scalars (suc n) = 0 ∷ 0 ∷ 0 ∷ zero_scalars n

zero_scalars_are : (n : ℕ) → Several n IsScalarBytes IsNothing (zero_scalars n)
zero_scalars_are zero = refl
zero_scalars_are (suc n) = (0 ∷ 0 ∷ 0 ∷ [], zero_scalars n, (0, refl, refl), zero_scalars_are n, refl)

zero_scalars_some : (n : ℕ) → 0 < n → 0 < length (zero_scalars n)
zero_scalars_some zero some = absurd (omega (arith, some))
zero_scalars_some (suc n) some = omega arith

counted : (most n : ℕ) (bytes : List ℕ) → 2 ≤ n → n ≤ most → bytes ≡ to_be_bytes w16 n ++ zero_scalars n → IsCounted most bytes
counted most n bytes some few is = record { count = n; some = some; few = few; scalars = zero_scalars n; are_scalars = zero_scalars_are n; split = is }

last_sample : (last : Last) → IsSoundLast last → Sample (Fields 0 0 last)
last_sample Nothing s = record { bytes = []; completes = refl; ends = inl (refl, refl) }
last_sample (Scalars n) s = record { bytes = zero_scalars n; completes = zero_scalars_are n; ends = inr (refl, zero_scalars_some n s) }
last_sample (Count most) s = record { bytes = 0 ∷ 2 ∷ zero_scalars 2; completes = counted most 2 (0 ∷ 2 ∷ zero_scalars 2) (omega arith) s.0 refl; ends = inr (refl, omega arith) }
last_sample Title s = record { bytes = 0 ∷ 1 ∷ letters 1; completes = letters_title 1 (omega arith) (omega arith); ends = inr (refl, omega arith) }
last_sample (Text len) s = record { bytes = letters len; completes = letters_end len; ends = inr (refl, omega (arith, s.0, (letters_end len).2)) }
last_sample Names s = record { bytes = 0 ∷ 0 ∷ 0 ∷ 0 ∷ []; completes = no_names; ends = inr (refl, omega arith) }
last_sample Code s = record { bytes = 0 ∷ 0 ∷ 0 ∷ []; completes = no_code; ends = inr (refl, omega arith) }
last_sample Length s = record { bytes = 0 ∷ 0 ∷ []; completes = ([], empty_body, refl); ends = inr (refl, omega arith) }
last_sample (Body len) s = record { bytes = blanks len; completes = blanks_end len; ends = inr (refl, omega (arith, s.0, (blanks_end len).1)) }

fields_sample : (i o : ℕ) (last : Last) → IsSoundLast last → Sample (Fields i o last)
fields_sample (suc i) o last s =
    let p = fields_sample i o last s in
    record { bytes = id_bytes first_id ++ p.bytes; completes = (id_bytes first_id, p.bytes, (first_id, first_is_one, refl), p.completes, refl); ends = inr (refl, omega arith) }
fields_sample zero (suc o) last s =
    let p = fields_sample zero o last s in record { bytes = 0 ∷ p.bytes; completes = (0 ∷ [], p.bytes, (None, tt, refl), p.completes, refl); ends = inr (refl, omega arith) }
fields_sample zero zero last s = last_sample last s

-- a run has two Texts at least, unless it begins with the last counter
most_sound : (counter : ℕ) → counter + 2 ≤ 2 ^ 32 → IsSoundLast (Count (most_from counter))
most_sound counter early = (omega (arith, early), omega arith)

run_with : (id : Identifier) → IsIdentifier id → id.counter + 2 ≤ 2 ^ 32 → (more : List ℕ) × IsRunAfter (id_bytes id ++ more)
run_with id is early =
    let p = fields_sample 1 2 (Count (most_from id.counter)) (most_sound id.counter early) in
    (p.bytes, record { id = id; is_identifier = is; rest = p.bytes; fields = p.completes; split = refl })

pub sample : (due : Due) → IsSoundDue due → Sample due
sample (Kind g) s = record {
  bytes = frame (Delete first_id);
  completes = (Single (Delete first_id), of_each_version g (Delete first_id) first_is_one tt, refl);
  ends = inr (refl, omega arith);
}
sample Run s =
    let p = run_with first_id first_is_one (omega arith) in
    record { bytes = id_bytes first_id ++ p.0; completes = p.1; ends = inr (refl, omega arith) }
sample (Fields i o last) s = fields_sample i o last s

-- an identifier
pub identifier_done : (i o : ℕ) (last : Last) (bytes : List ℕ) → 0 < i → IsSoundDue (Fields i o last) → IdentifierWith bytes []
    → LeavesDue bytes (Fields i o last) (Fields (i - 1) o last)
identifier_done zero o last bytes some s p = absurd (omega (arith, some))
identifier_done (suc i) o last bytes some s p =
    let one : suc i - 1 ≡ i = omega arith in
    rw one (record {
      rest = field_done identifier identifier_code (Several i IsIdentifierBytes (Several o IsOriginBytes (IsLast last))) bytes
          (p.id, p.is_identifier, sym (append-nil bytes) ∙ p.is);
      sound = s;
    })

pub identifier_front : (i o : ℕ) (last : Last) (bytes : List ℕ) → 0 < i → IsSoundDue (Fields i o last) → length bytes < 8 → IdentifierFront bytes
    → IsJudged Front (Fields i o last) bytes
identifier_front zero o last bytes some s short p = absurd (omega (arith, some))
identifier_front (suc i) o last bytes some s short p =
    let behind = fields_sample i o last s in (
      short,
      record {
        more = p.more ++ behind.bytes;
        lacks = omega (arith, p.lacks, length-append p.more behind.bytes);
        completes = (
          id_bytes p.whole.id,
          behind.bytes,
          (p.whole.id, p.whole.is_identifier, refl),
          behind.completes,
          sym (append_assoc bytes p.more behind.bytes) ∙ ap (λ b. b ++ behind.bytes) p.whole.is,
        );
      },
    )

-- the first byte of an origin
pub start_done : (o : ℕ) (last : Last) → 0 < o → IsSoundDue (Fields 0 o last) → LeavesDue (0 ∷ []) (Fields 0 o last) (Fields 0 (o - 1) last)
start_done zero last some s = absurd (omega (arith, some))
start_done (suc o) last some s =
    let one : suc o - 1 ≡ o = omega arith in
    rw one (record {
      rest = λ more. (λ t. first t.0 t.1 more t.2 t.3 t.4, λ r. (0 ∷ [], more, (None, tt, refl), r, refl));
      sound = s;
    })
  where
    first : (field rest more : List ℕ) → IsOriginBytes field → Several o IsOriginBytes (IsLast last) rest → 0 ∷ more ≡ field ++ rest → Several o IsOriginBytes (IsLast last) more
    first field rest more (None, valid, is) r e = subst (Several o IsOriginBytes (IsLast last)) (sym (cc (e ∙ ap (λ f. f ++ rest) is))) r
    first field rest more (Some id, valid, is) r e = absurd (cc (e ∙ ap (λ f. f ++ rest) is))

pub tag_done : (o : ℕ) (last : Last) → 0 < o → IsSoundDue (Fields 0 o last) → LeavesDue (1 ∷ []) (Fields 0 o last) (Fields 1 (o - 1) last)
tag_done zero last some s = absurd (omega (arith, some))
tag_done (suc o) last some s =
    let one : suc o - 1 ≡ o = omega arith in
    rw one (record {
      rest = λ more. (
        λ t. first t.0 t.1 more t.2 t.3 t.4,
        λ t. (1 ∷ t.0, t.1, (Some t.2.0, t.2.1, ap (λ b. 1 ∷ b) t.2.2), t.3, ap (λ b. 1 ∷ b) t.4),
      );
      sound = s;
    })
  where
    first : (field rest more : List ℕ) → IsOriginBytes field → Several o IsOriginBytes (IsLast last) rest → 1 ∷ more ≡ field ++ rest
        → Then IsIdentifierBytes (Several o IsOriginBytes (IsLast last)) more
    first field rest more (None, valid, is) r e = absurd (cc (e ∙ ap (λ f. f ++ rest) is))
    first field rest more (Some id, valid, is) r e = (id_bytes id, rest, (id, valid, refl), r, cc (e ∙ ap (λ f. f ++ rest) is))

-- a scalar
pub scalar_front : (n : ℕ) (bytes : List ℕ) → 0 < n → 0 < length bytes → length bytes < 3 → AreBytes bytes
    → IsScalar (scalar_of_bytes (get_or bytes 0 0) (get_or bytes 1 0) (get_or bytes 2 0)) → IsDueFront (Fields 0 0 (Scalars n)) bytes
scalar_front zero bytes left some short fits is = absurd (omega (arith, left))
scalar_front (suc n) [] left some short fits is = absurd (omega (arith, some))
scalar_front (suc n) (h ∷ []) left some short fits is = record {
  more = 0 ∷ 0 ∷ zero_scalars n;
  lacks = omega arith;
  completes = (h ∷ 0 ∷ 0 ∷ [], zero_scalars n, (scalar_of_bytes h 0 0, is, sym (bytes_of_code h 0 0 (fits 0) (omega arith) (omega arith))), zero_scalars_are n, refl);
}
scalar_front (suc n) (h ∷ m ∷ []) left some short fits is = record {
  more = 0 ∷ zero_scalars n;
  lacks = omega arith;
  completes = (h ∷ m ∷ 0 ∷ [], zero_scalars n, (scalar_of_bytes h m 0, is, sym (bytes_of_code h m 0 (fits 0) (fits 1) (omega arith))), zero_scalars_are n, refl);
}
scalar_front (suc n) (h ∷ m ∷ l ∷ b) left some short fits is = absurd (omega (arith, short))

-- where no scalar is due nothing is
scalars_are : (n : ℕ) (more : List ℕ) → Several n IsScalarBytes IsNothing more ↔ Completes (scalars_due n) more
scalars_are zero more = (λ e. e, λ e. e)
scalars_are (suc n) more = (λ e. e, λ e. e)

scalars_sound : (n : ℕ) → IsSoundDue (scalars_due n)
scalars_sound zero = tt
scalars_sound (suc n) = omega arith

pub scalar_done : (n : ℕ) (bytes : List ℕ) → 0 < n → length bytes ≡ 3 → AreBytes bytes
    → IsScalar (scalar_of_bytes (get_or bytes 0 0) (get_or bytes 1 0) (get_or bytes 2 0)) → LeavesDue bytes (Fields 0 0 (Scalars n)) (scalars_due (n - 1))
scalar_done zero bytes left long fits is = absurd (omega (arith, left))
scalar_done (suc n) (h ∷ m ∷ l ∷ []) left long fits is =
    let one : suc n - 1 ≡ n = omega arith in
    let own = field_done scalar scalar_code (Several n IsScalarBytes IsNothing) (h ∷ m ∷ l ∷ [])
    (scalar_of_bytes h m l, is, sym (bytes_of_code h m l (fits 0) (fits 1) (fits 2))) in
    rw one (record {
      rest = λ more. (λ t. (scalars_are n more).0 ((own more).0 t), λ t. (own more).1 ((scalars_are n more).1 t));
      sound = scalars_sound n;
    })
scalar_done (suc n) [] left long fits is = absurd (omega (arith, long))
scalar_done (suc n) (h ∷ []) left long fits is = absurd (omega (arith, long))
scalar_done (suc n) (h ∷ m ∷ []) left long fits is = absurd (omega (arith, long))
scalar_done (suc n) (h ∷ m ∷ l ∷ x ∷ b) left long fits is = absurd (omega (arith, long))

-- no bytes leave what is due
pub leaves_none : (due : Due) → IsSoundDue due → LeavesDue [] due due
leaves_none due s = record { rest = λ more. (λ t. t, λ t. t); sound = s }

-- what some bytes leave is left by those with others after them, if these leave it of what the first leave
pub leaves_both : (due mid next : Due) (a b : List ℕ) → LeavesDue a due mid → LeavesDue b mid next → LeavesDue (a ++ b) due next
leaves_both due mid next a b p q = record {
  rest = λ more. (
    λ t. (q.rest more).0 ((p.rest (b ++ more)).0 (subst (Completes due) (append_assoc a b more) t)),
    λ t. subst (Completes due) (sym (append_assoc a b more)) ((p.rest (b ++ more)).1 ((q.rest more).1 t)),
  );
  sound = q.sound;
}

pub some_scalars : (n : ℕ) → 0 < n → scalars_due n ≡ Fields 0 0 (Scalars n)
some_scalars zero s = absurd (omega (arith, s))
some_scalars (suc n) s = refl

bytes_taken : (n : ℕ) (b : List ℕ) → AreBytes b → AreBytes (take n b)
bytes_taken zero b fits i = omega arith
bytes_taken (suc n) [] fits i = omega arith
bytes_taken (suc n) (x ∷ b) fits zero = fits 0
bytes_taken (suc n) (x ∷ b) fits (suc i) = bytes_taken n b (λ j. fits (suc j)) i

-- one scalar more of several
pub scalars_done : (most passed : ℕ) (bytes : List ℕ) → passed < most → 3 * passed + 3 ≤ length bytes → AreBytes bytes
    → LeavesDue (take (3 * passed) bytes) (Fields 0 0 (Scalars most)) (scalars_due (most - passed))
    → (let field = take 3 (drop (3 * passed) bytes) in IsScalar (scalar_of_bytes (get_or field 0 0) (get_or field 1 0) (get_or field 2 0)))
    → LeavesDue (take (3 * (passed + 1)) bytes) (Fields 0 0 (Scalars most)) (scalars_due (most - (passed + 1)))
scalars_done most passed bytes few within fits left is =
    let some : 0 < most - passed = omega (arith, few) in
    let long : length (take 3 (drop (3 * passed) bytes)) ≡ 3 = length-take-le 3 (drop (3 * passed) bytes) (omega (arith, within, length-drop (3 * passed) bytes)) in
    let one : LeavesDue (take 3 (drop (3 * passed) bytes)) (Fields 0 0 (Scalars (most - passed))) (scalars_due (most - passed - 1)) =
    scalar_done (most - passed) (take 3 (drop (3 * passed) bytes)) some long
    (bytes_taken 3 (drop (3 * passed) bytes) (λ i. subst (λ b. b < 256) (sym (get_or-drop (3 * passed) bytes i 0)) (fits (3 * passed + i)))) is in
    let both = leaves_both (Fields 0 0 (Scalars most)) (Fields 0 0 (Scalars (most - passed))) (scalars_due (most - passed - 1))
    (take (3 * passed) bytes) (take 3 (drop (3 * passed) bytes))
    (subst (λ d. LeavesDue (take (3 * passed) bytes) (Fields 0 0 (Scalars most)) d) (some_scalars (most - passed) some) left) one in
    let joined : take (3 * passed) bytes ++ take 3 (drop (3 * passed) bytes) ≡ take (3 * (passed + 1)) bytes =
    sym (take-add (3 * passed) 3 bytes) ∙ ap (λ n. take n bytes) (omega arith) in
    subst (λ l. LeavesDue l (Fields 0 0 (Scalars most)) (scalars_due (most - (passed + 1)))) joined
    (subst (λ n. LeavesDue (take (3 * passed) bytes ++ take 3 (drop (3 * passed) bytes)) (Fields 0 0 (Scalars most)) (scalars_due n)) (omega (arith, few)) both)

-- bytes that begin no scalar, with zeros after them
one_floor : (ch h : ℕ) → IsScalar ch → byte_at 2 ch ≡ h → IsScalar (scalar_of_bytes h 0 0)
one_floor ch h is first = grind (arith, nat_tests, scalar_below ch is)

two_floor : (ch h m : ℕ) → IsScalar ch → byte_at 2 ch ≡ h → byte_at 1 ch ≡ m → IsScalar (scalar_of_bytes h m 0)
two_floor ch h m is first second = grind (arith, nat_tests, scalar_below ch is)

three_floor : (ch h m l : ℕ) → IsScalar ch → byte_at 2 ch ≡ h → byte_at 1 ch ≡ m → byte_at 0 ch ≡ l → IsScalar (scalar_of_bytes h m l)
three_floor ch h m l is first second third =
    let whole : ch ≡ scalar_of_bytes h m l = omega (arith, scalar_below ch is, first, second, third) in subst IsScalar whole is

pub none_holds : {T : Type 0} (o : Option T) (P : Type 0) (v : T) → SomeIff o P v → is_some o ≡ false → P → ⊥
none_holds None P v is none p = is p
none_holds (Some x) P v is none p = cc none

pub scalar_never : (n : ℕ) (bytes : List ℕ) → 0 < n → 0 < length bytes → length bytes ≤ 3
    → (IsScalar (scalar_of_bytes (get_or bytes 0 0) (get_or bytes 1 0) (get_or bytes 2 0)) → ⊥)
    → NeverCompletes (Fields 0 0 (Scalars n)) bytes
scalar_never zero bytes left some short none more t = omega (arith, left)
scalar_never (suc n) bytes left some short none more t = by_bytes bytes some short none (t.4 ∙ ap (λ (f : List ℕ). f ++ t.1) t.2.2)
  where
    ch : ℕ
    ch = t.2.0

    by_bytes : (b : List ℕ) → 0 < length b → length b ≤ 3 → (IsScalar (scalar_of_bytes (get_or b 0 0) (get_or b 1 0) (get_or b 2 0)) → ⊥) → b ++ more ≡ scalar_bytes ch ++ t.1 → ⊥
    by_bytes [] some short none same = omega (arith, some)
    by_bytes (h ∷ []) some short none same = let first : byte_at 2 ch ≡ h = cc same in none (one_floor ch h t.2.1 first)
    by_bytes (h ∷ m ∷ []) some short none same =
        let first : byte_at 2 ch ≡ h = cc same in let second : byte_at 1 ch ≡ m = cc same in none (two_floor ch h m t.2.1 first second)
    by_bytes (h ∷ m ∷ l ∷ []) some short none same =
        let first : byte_at 2 ch ≡ h = cc same in
        let second : byte_at 1 ch ≡ m = cc same in
        let third : byte_at 0 ch ≡ l = cc same in
        none (three_floor ch h m l t.2.1 first second third)
    by_bytes (h ∷ m ∷ l ∷ x ∷ b) some short none same = omega (arith, short)

-- the first byte of a count
pub high_count : (most : ℕ) (bytes : List ℕ) → length bytes ≡ 1 → 2 ≤ most → get_or bytes 0 0 < 256 → get_or bytes 0 0 * 256 ≤ most → IsDueFront (Fields 0 0 (Count most)) bytes
high_count most [] long some small few = absurd (omega (arith, long))
high_count most (high ∷ low ∷ b) long some small few = absurd (omega (arith, long))
high_count most (high ∷ []) long some small few =
    let p = count_front most high some small few in
    record {
      more = p.low ∷ zero_scalars (high * 256 + p.low);
      lacks = omega arith;
      completes = counted most (high * 256 + p.low) (high ∷ p.low ∷ zero_scalars (high * 256 + p.low)) p.some p.few
          (ap (λ (l : List ℕ). l ++ zero_scalars (high * 256 + p.low)) (sym p.is));
    }

-- the first identifier of a run
pub run_front : (bytes : List ℕ) → length bytes < 8 → IdentifierFront bytes → IsJudged Front Run bytes
run_front bytes short p =
    let q = run_with p.whole.id p.whole.is_identifier p.early in (
      short,
      record {
        more = p.more ++ q.0;
        lacks = omega (arith, p.lacks, length-append p.more q.0);
        completes = subst IsRunAfter (ap (λ (b : List ℕ). b ++ q.0) (sym p.whole.is) ∙ append_assoc bytes p.more q.0) q.1;
      },
    )

run_id : (bytes more : List ℕ) (p : IdentifierWith bytes []) (r : IsRunAfter (bytes ++ more)) → (p.id ≡ r.id) × (more ≡ r.rest)
run_id bytes more p r = identifier_code.once p.id r.id more r.rest p.is_identifier r.is_identifier (ap (λ (b : List ℕ). b ++ more) (sym p.is ∙ append-nil bytes) ∙ r.split)

pub run_done : (counter : ℕ) (bytes : List ℕ) (p : IdentifierWith bytes []) → p.id.counter ≡ counter → counter + 2 ≤ 2 ^ 32
    → LeavesDue bytes Run (Fields 1 2 (Count (most_from counter)))
run_done counter bytes p at early = record {
  rest = λ more. (
    λ r.
        let both = run_id bytes more p r in
        subst (λ (n : ℕ). AreFields 1 2 (Count (most_from n)) more) (ap (λ (id : Identifier). id.counter) (sym both.0) ∙ at)
        (subst (AreFields 1 2 (Count (most_from r.id.counter))) (sym both.1) r.fields),
    λ t. record {
      id = p.id;
      is_identifier = p.is_identifier;
      rest = more;
      fields = subst (λ (n : ℕ). AreFields 1 2 (Count (most_from n)) more) (sym at) t;
      split = ap (λ (b : List ℕ). b ++ more) (sym (append-nil bytes) ∙ p.is);
    },
  );
  sound = most_sound counter early;
}

-- the two numbers of an identifier
pub numbers_there : (b r : List ℕ) (n m : ℕ) → 0 < n → n < 2 ^ 32 → m < 2 ^ 32 → length b ≡ 8 → b ≡ to_be_bytes w32 n ++ drop 4 b → r ≡ drop 4 b → r ≡ to_be_bytes w32 m ++ drop 4 r
    → (p : IdentifierWith b []) × (p.id.counter ≡ m)
numbers_there b r n m some n_fits m_fits long first is second =
    let none : drop 4 r ≡ [] = nil_from_length (drop 4 r) (omega (arith, length-drop 4 r, ap length is, length-drop 4 b, long)) in (
      record {
        id = record { replica = n; counter = m };
        is_identifier = record { some_replica = some; replica_fits = n_fits; counter_fits = m_fits };
        is = append-nil b ∙ first ∙ ap (λ (l : List ℕ). to_be_bytes w32 n ++ l)
            (sym is ∙ second ∙ ap (λ (l : List ℕ). to_be_bytes w32 m ++ l) none ∙ append-nil (to_be_bytes w32 m));
      },
      refl,
    )

-- a title's length
pub length_done : (bytes : List ℕ) (len : ℕ) → length bytes ≡ 2 → to_be_bytes w16 len ≡ get_or bytes 0 0 ∷ get_or bytes 1 0 ∷ [] → 0 < len → len ≤ LONGEST_TITLE
    → LeavesDue bytes (Fields 0 0 Title) (Fields 0 0 (Text len))
length_done (h ∷ l ∷ []) len long is some short = record {
  rest = λ more. (
    λ t.
        let both = length_once len (length (encode_utf8_all t.0)) more (encode_utf8_all t.0) (omega (arith, short)) (omega (arith, t.1.text.short))
        (ap (λ (b : List ℕ). b ++ more) is ∙ t.2) in
        subst (IsTitleEnd len) (sym both.1) (subst (λ n. IsTitleEnd n (encode_utf8_all t.0)) (sym both.0) (title_end t.0 t.1)),
    λ e. (chars more, title_in len more some short e, ap (λ b. b ++ more) (sym is) ∙ title_spelled len more e),
  );
  sound = (some, short);
}
length_done [] len long is some short = absurd (omega (arith, long))
length_done (h ∷ []) len long is some short = absurd (omega (arith, long))
length_done (h ∷ l ∷ x ∷ b) len long is some short = absurd (omega (arith, long))

-- the first byte of a length
pub high_front : (high : ℕ) → high ≤ 1 → IsDueFront (Fields 0 0 Title) (high ∷ [])
high_front zero small = record { more = 1 ∷ letters 1; lacks = omega arith; completes = letters_title 1 (omega arith) (omega arith) }
high_front (suc zero) small = record { more = 0 ∷ letters 256; lacks = omega arith; completes = letters_title 256 (omega arith) (omega arith) }
high_front (suc (suc n)) small = absurd (omega (arith, small))

-- the text after characters of it
text_after : (len : ℕ) (bytes more : List ℕ) → IsUtf8 bytes → IsTitleEnd len (bytes ++ more) → IsTitleEnd (len - length bytes) more
text_after len bytes more utf8 e =
    let front : IsUtf8 (take (length bytes) (bytes ++ more)) = subst IsUtf8 (sym (take-append_seam bytes more)) utf8 in
    let boundary = IsCharBoundary-from_take (bytes ++ more) (length bytes) e.0 (omega (arith, length-append bytes more)) front in (
      subst IsUtf8 (drop-append_seam bytes more) (IsUtf8-drop (bytes ++ more) (length bytes) e.0 boundary),
      (or_parts (has_line_end bytes) (has_line_end more) (sym (list_any-append ends_line bytes more) ∙ e.1)).1,
      omega (arith, e.2, length-append bytes more),
    )

text_before : (len : ℕ) (bytes more : List ℕ) → IsUtf8 bytes → has_line_end bytes ≡ false → length bytes ≤ len → IsTitleEnd (len - length bytes) more
    → IsTitleEnd len (bytes ++ more)
text_before len bytes more utf8 one_line short e = (
  IsUtf8-append bytes more utf8 e.0,
  list_any-append ends_line bytes more ∙ or_from (has_line_end bytes) (has_line_end more) one_line e.1,
  omega (arith, e.2, short, length-append bytes more),
)

-- where no text is due nothing is
text_is : (len : ℕ) (more : List ℕ) → IsTitleEnd len more ↔ Completes (text_due len) more
text_is zero more = (λ e. nil_from_length more e.2, λ none. subst (IsTitleEnd 0) (sym none) (IsUtf8-nil, refl, refl))
text_is (suc len) more = (λ e. e, λ e. e)

sound_text : (len : ℕ) → len ≤ LONGEST_TITLE → IsSoundDue (text_due len)
sound_text zero short = tt
sound_text (suc len) short = (omega arith, short)

pub text_done : (bytes : List ℕ) (len : ℕ) → IsUtf8 bytes → has_line_end bytes ≡ false → length bytes ≤ len → len ≤ LONGEST_TITLE
    → LeavesDue bytes (Fields 0 0 (Text len)) (text_due (len - length bytes))
text_done bytes len utf8 one_line short most = record {
  rest = λ more. (
    λ e. (text_is (len - length bytes) more).0 (text_after len bytes more utf8 e),
    λ e. text_before len bytes more utf8 one_line short ((text_is (len - length bytes) more).1 e),
  );
  sound = sound_text (len - length bytes) (omega (arith, most));
}

-- fields one after the other
four : (a b c d : List ℕ) → a ++ (b ++ (c ++ d)) ≡ a ++ b ++ c ++ d
four a b c d = sym (append_assoc (a ++ b) c d ∙ append_assoc a b (c ++ d))

five : (a b c d e : List ℕ) → a ++ (b ++ (c ++ (d ++ e))) ≡ a ++ b ++ c ++ d ++ e
five a b c d e = sym (append_assoc (a ++ b ++ c) d e ∙ append_assoc (a ++ b) c (d ++ e) ∙ append_assoc a b (c ++ (d ++ e)))

-- the first byte of a frame
pub section_due : (g : Grammar) → LeavesDue (1 ∷ []) (Kind g) (Fields 1 2 Title)
section_due g = record {
  rest = λ more. (
    λ t. fields t.0 more t.1 t.2,
    λ t. (
      Single (Section t.2.0 t.3.2.0 t.3.3.2.0 t.3.3.3.0),
      of_each_version g (Section t.2.0 t.3.2.0 t.3.3.2.0 t.3.3.3.0) (t.2.1, t.3.2.1, t.3.3.2.1, t.3.3.3.1) tt,
      ap (λ b. 1 ∷ b)
          (t.4 ∙ (λ i. t.2.2 i ++ (t.3.4 ∙ (λ j. t.3.2.2 j ++ (t.3.3.4 ∙ (λ k. t.3.3.2.2 k ++ t.3.3.3.2 k)) j)) i)
          ∙ four (id_bytes t.2.0) (origin_bytes t.3.2.0) (origin_bytes t.3.3.2.0) (title_bytes t.3.3.3.0)),
    ),
  );
  sound = tt;
}
  where
    fields : (item : Item) (more : List ℕ) → IsItem g item → 1 ∷ more ≡ item_bytes item → Completes (Fields 1 2 Title) more
    fields (Single (Section id l r t)) more is e = let has = has_frame g (Section id l r t) is in (
      id_bytes id,
      origin_bytes l ++ (origin_bytes r ++ title_bytes t),
      (id, has.0, refl),
      (origin_bytes l, origin_bytes r ++ title_bytes t, (l, has.1, refl), (origin_bytes r, title_bytes t, (r, has.2, refl), (t, has.3, refl), refl), refl),
      cc e ∙ sym (four (id_bytes id) (origin_bytes l) (origin_bytes r) (title_bytes t)),
    )
    fields (Single (TextOp id s l r ch)) more has e = absurd (cc e)
    fields (Single (Delete id)) more has e = absurd (cc e)
    fields (Single (Note id n c b)) more has e = absurd (cc e)
    fields (Typed run) more has e = absurd (cc e)

-- one scalar and nothing after it
one_scalar : {bytes : List ℕ} (t : Then IsScalarBytes IsNothing bytes) → bytes ≡ scalar_bytes t.2.0
one_scalar t = t.4 ∙ (λ i. t.2.2 i ++ t.3 i) ∙ append-nil (scalar_bytes t.2.0)

pub character_due : (g : Grammar) → LeavesDue (2 ∷ []) (Kind g) (Fields 2 2 (Scalars 1))
character_due g = record {
  rest = λ more. (
    λ t. fields t.0 more t.1 t.2,
    λ t. (
      Single (TextOp t.2.0 t.3.2.0 t.3.3.2.0 t.3.3.3.2.0 t.3.3.3.3.2.0),
      of_each_version g (TextOp t.2.0 t.3.2.0 t.3.3.2.0 t.3.3.3.2.0 t.3.3.3.3.2.0) (t.2.1, t.3.2.1, t.3.3.2.1, t.3.3.3.2.1, t.3.3.3.3.2.1) tt,
      ap (λ b. 2 ∷ b)
          (t.4 ∙ (λ i. t.2.2 i ++ (t.3.4 ∙ (λ j. t.3.2.2 j ++ (t.3.3.4 ∙ (λ k. t.3.3.2.2 k ++ (t.3.3.3.4 ∙ (λ m. t.3.3.3.2.2 m ++ one_scalar t.3.3.3.3 m)) k)) j)) i)
          ∙ five (id_bytes t.2.0) (id_bytes t.3.2.0) (origin_bytes t.3.3.2.0) (origin_bytes t.3.3.3.2.0) (scalar_bytes t.3.3.3.3.2.0)),
    ),
  );
  sound = omega arith;
}
  where
    fields : (item : Item) (more : List ℕ) → IsItem g item → 2 ∷ more ≡ item_bytes item → Completes (Fields 2 2 (Scalars 1)) more
    fields (Single (Section id l r t)) more has e = absurd (cc e)
    fields (Single (TextOp id s l r ch)) more is e = let has = has_frame g (TextOp id s l r ch) is in (
      id_bytes id,
      id_bytes s ++ (origin_bytes l ++ (origin_bytes r ++ scalar_bytes ch)),
      (id, has.0, refl),
      (
        id_bytes s,
        origin_bytes l ++ (origin_bytes r ++ scalar_bytes ch),
        (s, has.1, refl),
        (
          origin_bytes l,
          origin_bytes r ++ scalar_bytes ch,
          (l, has.2, refl),
          (origin_bytes r, scalar_bytes ch, (r, has.3, refl), (scalar_bytes ch, [], (ch, has.4, refl), refl, sym (append-nil (scalar_bytes ch))), refl),
          refl,
        ),
        refl,
      ),
      cc e ∙ sym (five (id_bytes id) (id_bytes s) (origin_bytes l) (origin_bytes r) (scalar_bytes ch)),
    )
    fields (Single (Delete id)) more has e = absurd (cc e)
    fields (Single (Note id n c b)) more has e = absurd (cc e)
    fields (Typed run) more has e = absurd (cc e)

pub target_due : (g : Grammar) → LeavesDue (3 ∷ []) (Kind g) (Fields 1 0 Nothing)
target_due g = record {
  rest = λ more. (
    λ t. fields t.0 more t.1 t.2,
    λ t. (Single (Delete t.2.0), of_each_version g (Delete t.2.0) t.2.1 tt, ap (λ b. 3 ∷ b) (t.4 ∙ (λ i. t.2.2 i ++ t.3 i) ∙ append-nil (id_bytes t.2.0))),
  );
  sound = tt;
}
  where
    fields : (item : Item) (more : List ℕ) → IsItem g item → 3 ∷ more ≡ item_bytes item → Completes (Fields 1 0 Nothing) more
    fields (Single (Section id l r t)) more has e = absurd (cc e)
    fields (Single (TextOp id s l r ch)) more has e = absurd (cc e)
    fields (Single (Delete id)) more is e = (id_bytes id, [], (id, has_frame g (Delete id) is, refl), refl, cc e ∙ sym (append-nil (id_bytes id)))
    fields (Single (Note id n c b)) more has e = absurd (cc e)
    fields (Typed run) more has e = absurd (cc e)

-- a note, of which version 1 has no frame
pub note_due : LeavesDue (5 ∷ []) (Kind Version2) (Fields 1 0 Names)
note_due = record {
  rest = λ more. (
    λ t. fields t.0 more t.1 t.2,
    λ t. (
      Single (Note t.2.0 t.3.2.0 t.3.3.2.0 t.3.3.3.0),
      (t.2.1, t.3.2.1, t.3.3.2.1, t.3.3.3.1),
      ap (λ b. 5 ∷ b)
          (t.4 ∙ (λ i. t.2.2 i ++ (t.3.4 ∙ (λ j. t.3.2.2 j ++ (t.3.3.4 ∙ (λ k. t.3.3.2.2 k ++ t.3.3.3.2 k)) j)) i)
          ∙ four (id_bytes t.2.0) (names_bytes t.3.2.0) (t.3.3.2.0 ∷ []) (body_bytes t.3.3.3.0)),
    ),
  );
  sound = tt;
}
  where
    fields : (item : Item) (more : List ℕ) → IsItem Version2 item → 5 ∷ more ≡ item_bytes item → Completes (Fields 1 0 Names) more
    fields (Single (Section id l r t)) more has e = absurd (cc e)
    fields (Single (TextOp id s l r ch)) more has e = absurd (cc e)
    fields (Single (Delete id)) more has e = absurd (cc e)
    fields (Single (Note id n c b)) more has e = (
      id_bytes id,
      names_bytes n ++ (c ∷ [] ++ body_bytes b),
      (id, has.0, refl),
      (names_bytes n, c ∷ [] ++ body_bytes b, (n, has.1, refl), (c ∷ [], body_bytes b, (c, has.2, refl), (b, has.3, refl), refl), refl),
      cc e ∙ sym (four (id_bytes id) (names_bytes n) (c ∷ []) (body_bytes b)),
    )
    fields (Typed run) more has e = absurd (cc e)

-- scalars one after the other
scalars_there : (text : List ℕ) → All IsScalar text → Several (length text) IsScalarBytes IsNothing (flat_map scalar_bytes text)
scalars_there text all = subst (Several (length text) IsScalarBytes IsNothing) (append-nil (flat_map scalar_bytes text)) (several_of scalar IsNothing text [] all refl)

-- a run after its first byte
run_after : (run : RunOf) → HasRunFrame run → IsRunAfter (drop 1 (run_frame run))
run_after run has = record {
  id = run.id;
  is_identifier = has.id;
  rest = id_bytes run.section ++ (origin_bytes run.left ++ (origin_bytes run.right ++ text_bytes run.text));
  fields = (
    id_bytes run.section,
    origin_bytes run.left ++ (origin_bytes run.right ++ text_bytes run.text),
    (run.section, has.section, refl),
    (
      origin_bytes run.left,
      origin_bytes run.right ++ text_bytes run.text,
      (run.left, has.left, refl),
      (
        origin_bytes run.right,
        text_bytes run.text,
        (run.right, has.right, refl),
        record {
          count = length run.text;
          some = has.text.some;
          few = omega (arith, has.text.short, has.counters_fit);
          scalars = flat_map scalar_bytes run.text;
          are_scalars = scalars_there run.text has.text.scalars;
          split = refl;
        },
        refl,
      ),
      refl,
    ),
    refl,
  );
  split = run_is run;
}

pub record RunThere (bytes : List ℕ) : Type 0 where
  pub run : RunOf
  pub has_frame : HasRunFrame run
  pub is : bytes ≡ drop 1 (run_frame run)

pub run_there : (bytes : List ℕ) → IsRunAfter bytes → RunThere bytes
run_there bytes r =
    let f = r.fields in
    let c : IsCounted (most_from r.id.counter) f.3.3.1 = f.3.3.3 in
    let p = values_of scalar IsNothing c.count c.scalars c.are_scalars in
    let all : c.scalars ≡ flat_map scalar_bytes p.values = p.is ∙ ap (λ (l : List ℕ). flat_map scalar_bytes p.values ++ l) p.behind ∙ append-nil (flat_map scalar_bytes p.values) in
    let text : f.3.3.1 ≡ text_bytes p.values = c.split ∙ (λ i. to_be_bytes w16 (sym p.long i) ++ all i) in
    let run : RunOf = record { id = r.id; section = f.2.0; left = f.3.2.0; right = f.3.3.2.0; text = p.values } in
    record {
      run = run;
      has_frame = record {
        id = r.is_identifier;
        section = f.2.1;
        left = f.3.2.1;
        right = f.3.3.2.1;
        text = record { some = omega (arith, p.long, c.some); short = omega (arith, p.long, c.few); scalars = p.valid };
        counters_fit = omega (arith, p.long, c.few, c.some);
      };
      is = r.split ∙ ap (λ (l : List ℕ). id_bytes r.id ++ l) (f.4 ∙ (λ i. f.2.2 i ++ (f.3.4 ∙ (λ j. f.3.2.2 j ++ (f.3.3.4 ∙ (λ k. f.3.3.2.2 k ++ text k)) j)) i))
          ∙ sym (run_is run);
    }

pub run_due : LeavesDue (4 ∷ []) (Kind Version2) Run
run_due = record {
  rest = λ more. (λ t. behind t.0 more t.1 t.2, λ r. let p = run_there more r in (Typed p.run, p.has_frame, ap (λ (l : List ℕ). 4 ∷ l) p.is));
  sound = tt;
}
  where
    behind : (item : Item) (more : List ℕ) → IsItem Version2 item → 4 ∷ more ≡ item_bytes item → IsRunAfter more
    behind (Single (Section id l r t)) more has e = absurd (cc e)
    behind (Single (TextOp id s l r ch)) more has e = absurd (cc e)
    behind (Single (Delete id)) more has e = absurd (cc e)
    behind (Single (Note id n c b)) more has e = absurd (cc e)
    behind (Typed run) more has e = subst IsRunAfter (sym (cc e)) (run_after run has)

-- nothing is due, and bytes came
pub nothing_due : (last : Last) (bytes : List ℕ) → last ≡ Nothing → 0 < length bytes → (more : List ℕ) → IsLast last (bytes ++ more) → ⊥
nothing_due Nothing bytes is some more e = omega (arith, some, ap length e, length-append bytes more)
nothing_due (Scalars n) bytes is some more e = cc is
nothing_due (Count most) bytes is some more e = cc is
nothing_due Title bytes is some more e = cc is
nothing_due (Text len) bytes is some more e = cc is
nothing_due Names bytes is some more e = cc is
nothing_due Code bytes is some more e = cc is
nothing_due Length bytes is some more e = cc is
nothing_due (Body len) bytes is some more e = cc is

-- a text of some bytes
pub some_text : (len : ℕ) → (len ≡ 0 → ⊥) → Fields 0 0 (Text len) ≡ text_due len
some_text zero some = absurd (some refl)
some_text (suc len) some = refl
