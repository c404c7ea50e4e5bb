-- What stands after the fields of a frame that came, and in the one that is due.
use Rattle.std.proofs.Common.{◌≡◌, ℕ, zero, suc, ◌+◌, ◌-◌, ◌<◌, ◌≤◌, List, [], ◌∷◌, ◌++◌, length, take, drop, set, refl, ap, sym, subst, ◌∙◌, append_assoc, arith, inl, inr}
use Rattle.std.proofs.Common.{length-append}
use Rattle.std.specs.Prelude.{◌↔◌, Option, Some, None, flat_map}
use Rattle.std.specs.Int.{to_be_bytes, w16}
use Rattle.std.specs.Str.{encode_utf8_all}
use Rattle.std.proofs.Math.Seq.{take-add}
use Rattle.std.proofs.lemmas.List.{append-nil, append_cancel_left, nil_from_length, take-set-le, take_more_set}
use Rattle.fugue_ids.specs.Identifiers.{Identifier}
use Rattle.fugue_ids.specs.declared.op.Op.{Op}
use Rattle.fugue_ids.specs.declared.op.Op.TheVariants.{Delete, Note, Section, Text as TextOp}
use Rattle.origin_model.specs.declared.grammar.Grammar.{Grammar}
use Rattle.origin_model.specs.frames.Frames.{Begins, Framed, HasFrame, IsBad, IsFrame, IsItem, IsPartial, Item, Single, Typed, body_bytes, frame, id_bytes, item_bytes, item_ops}
use Rattle.origin_model.specs.frames.Frames.{names_bytes, origin_bytes, scalar_bytes, text_bytes, title_bytes}
use Rattle.origin_model.proofs.SharedLemmas.{length-scalars, origin_short}
use Rattle.op_frame.specs.FrameFronts.{Awaits, Completes, IsDueFront, IsFrameOf, IsFrameStage, IsSoundDue, LeavesDue, NeverCompletes, field_size, grown_by}
use Rattle.op_frame.specs.declared.due.Due.{Due}
use Rattle.op_frame.specs.declared.due.Due.TheVariants.{Fields, Kind, Run}
use Rattle.op_frame.specs.declared.due.Last.TheVariants.{Body, Code, Count, Length, Names, Nothing, Scalars, Text, Title}
use Rattle.op_frame.specs.declared.encoding.TheConstants.{LONGEST_FRAME}
use Rattle.op_frame.specs.declared.grown.Grown.{Grown}
use Rattle.op_frame.specs.declared.grown.Grown.TheVariants.{Bad as IsNeither, Front as IsFrontGrown}
use Rattle.op_frame.proofs.DueLemmas.{sample}
use Rattle.op_frame.proofs.FieldLemmas.{length-identifiers}
use Rattle.op_frame.proofs.FormatLemmas.{two_fronts}
use Rattle.op_frame.proofs.FrameLemmas.{bad_goes_on}
use Rattle.op_frame.proofs.ItemLemmas.{has_frame, has_run_frame}
use Rattle.op_frame.proofs.ReadingLemmas.{begins_not_partial, item_some}

-- what the bytes are after a field, and in it
module _ (g : Grammar) (due : Due) (before : List ℕ) (rest : (more : List ℕ) → IsFrameOf g (before ++ more) ↔ Completes due more) where
  pub is_front : (bytes : List ℕ) → IsDueFront due bytes → IsPartial g (before ++ bytes)
  is_front bytes p =
      let f = (rest (bytes ++ p.more)).1 p.completes in
      record { framed = record { bytes = before ++ (bytes ++ p.more); ops = f.0 }; is_frame = f.1; more = p.more; lacks = p.lacks; front = sym (append_assoc before bytes p.more) }

  pub is_neither : (bytes : List ℕ) → ((more : List ℕ) → Completes due (bytes ++ more) → ⊥) → IsFrameStage IsNeither g (before ++ bytes)
  is_neither bytes none = (
    λ f. none [] ((rest (bytes ++ [])).0 (subst (IsFrameOf g) (sym (ap (λ b. before ++ b) (append-nil bytes))) f)),
    λ p. none p.more ((rest (bytes ++ p.more)).0
        (p.framed.ops, subst (λ b. IsFrame g (record { bytes = b; ops = p.framed.ops })) (p.front ∙ append_assoc before bytes p.more) p.is_frame)),
  )

  pub is_grown : (grown : Grown) → grown ≡ grown_by due → IsSoundDue due → IsFrameStage grown g before
  is_grown grown e s =
      let p = sample due s in
      elim p.ends [
        | inl whole ↦ subst (λ k. IsFrameStage k g before) (sym (e ∙ whole.0)) (subst (IsFrameOf g) (append-nil before) ((rest []).1 (subst (Completes due) whole.1 p.completes)))
        | inr more ↦ subst (λ k. IsFrameStage k g before) (sym (e ∙ more.0))
            (subst (IsPartial g) (append-nil before) (is_front [] (record { more = p.bytes; lacks = more.1; completes = p.completes })))
      ]

-- a field that was looked at is not shorter than what is due
long_enough : (due : Due) (bytes : List ℕ) → IsSoundDue due → grown_by due ≡ IsFrontGrown → Completes due bytes → field_size due ≤ length bytes
long_enough (Kind g) bytes s e t = omega (arith, item_some t.0, ap length t.2)
long_enough Run bytes s e t = omega (arith, ap length t.split, length-append (id_bytes t.id) t.rest)
long_enough (Fields (suc i) o last) bytes s e t = omega (arith, ap length t.2.2, ap length t.4, length-append t.0 t.1)
long_enough (Fields zero (suc o) last) bytes s e t = long_origin t.0 t.1 t.2.0 t.2.2 t.4
  where
    long_origin : (field rest : List ℕ) (origin : Option Identifier) → field ≡ origin_bytes origin → bytes ≡ field ++ rest → 1 ≤ length bytes
    long_origin field rest None is e = omega (arith, ap length is, ap length e, length-append field rest)
    long_origin field rest (Some id) is e = omega (arith, ap length is, ap length e, length-append field rest)
long_enough (Fields zero zero Nothing) bytes s e t = absurd (cc e)
long_enough (Fields zero zero (Scalars zero)) bytes s e t = absurd (omega (arith, s))
long_enough (Fields zero zero (Scalars (suc n))) bytes s e t = omega (arith, ap length t.2.2, ap length t.4, length-append t.0 t.1)
long_enough (Fields zero zero (Count most)) bytes s e t = omega (arith, ap length t.split, length-append (to_be_bytes w16 t.count) t.scalars)
long_enough (Fields zero zero Title) bytes s e t = omega (arith, ap length t.2, length-append (to_be_bytes w16 (length (encode_utf8_all t.0))) (encode_utf8_all t.0))
long_enough (Fields zero zero (Text len)) bytes s e t = omega (arith, t.2)
long_enough (Fields zero zero Names) bytes s e t = omega (arith, ap length t.2.2, ap length t.4, length-append t.0 t.1)
long_enough (Fields zero zero Code) bytes s e t = omega (arith, ap length t.2.2, ap length t.4, length-append t.0 t.1)
long_enough (Fields zero zero Length) bytes s e t = omega (arith, ap length t.2, length-append (to_be_bytes w16 (length t.0)) t.0)
long_enough (Fields zero zero (Body len)) bytes s e t = omega (arith, t.1)

-- no frame begins with bytes of which a field is none
pub none_begins : (g : Grammar) (due : Due) (before field behind : List ℕ) → Awaits g due before 0 → grown_by due ≡ IsFrontGrown → length field ≤ field_size due
    → NeverCompletes due field → IsBad g ((before ++ field) ++ behind)
none_begins g due before field behind a e short never = bad_goes_on g (before ++ field) behind (record {
  no_frame = λ framed rest b. elim (two_fronts before field framed.bytes rest b.split) [
    | inl r ↦ elsewhere framed r.between rest b r.is
    | inr r ↦ begins_not_partial g before framed r.between (record { is_frame = b.is_frame; split = r.is }) (is_grown g due before a.rest IsFrontGrown (sym e) a.sound)
  ];
  no_front = (is_neither g due before a.rest field never).1;
})
  where
    elsewhere : (framed : Framed) (between rest : List ℕ) → Begins g (before ++ field) framed rest → framed.bytes ≡ before ++ between → ⊥
    elsewhere framed between rest b is =
        let completes : Completes due between = (a.rest between).0 (framed.ops, subst (λ l. IsFrame g (record { bytes = l; ops = framed.ops })) is b.is_frame) in
        let split : field ≡ between ++ rest = append_cancel_left before field (between ++ rest) (b.split ∙ ap (λ l. l ++ rest) is ∙ append_assoc before between rest) in
        let none : rest ≡ [] = nil_from_length rest (omega (arith, long_enough due between a.sound e completes, short, ap length split, length-append between rest)) in
        never [] (subst (Completes due) (sym (append-nil field ∙ split ∙ ap (λ l. between ++ l) none ∙ append-nil between)) completes)

-- no frame is longer than a run with both origins and 1,024 scalars
pub item_short : (g : Grammar) (item : Item) → IsItem g item → length (item_bytes item) ≤ LONGEST_FRAME
item_short g (Single op) has = operation_short op (has_frame g op has)
  where
    operation_short : (op : Op) → HasFrame op → length (frame op) ≤ LONGEST_FRAME
    operation_short (Section id l r t) has =
        omega (
          arith,
          origin_short l,
          origin_short r,
          has.3.text.short,
          length-append (id_bytes id ++ origin_bytes l ++ origin_bytes r) (title_bytes t),
          length-append (id_bytes id ++ origin_bytes l) (origin_bytes r),
          length-append (id_bytes id) (origin_bytes l),
        )
    operation_short (TextOp id s l r ch) has =
        omega (
          arith,
          origin_short l,
          origin_short r,
          length-append (id_bytes id ++ id_bytes s ++ origin_bytes l ++ origin_bytes r) (scalar_bytes ch),
          length-append (id_bytes id ++ id_bytes s ++ origin_bytes l) (origin_bytes r),
          length-append (id_bytes id ++ id_bytes s) (origin_bytes l),
        )
    operation_short (Delete id) has = omega arith
    operation_short (Note id n c b) has =
        omega (
          arith,
          has.1.few,
          has.3.short,
          length-identifiers n,
          length-append (id_bytes id ++ names_bytes n ++ c ∷ []) (body_bytes b),
          length-append (id_bytes id ++ names_bytes n) (c ∷ []),
          length-append (id_bytes id) (names_bytes n),
          length-append (to_be_bytes w16 (length b)) b,
        )
item_short g (Typed run) is =
    omega (
      arith,
      origin_short run.left,
      origin_short run.right,
      (has_run_frame g run is).text.short,
      length-scalars run.text,
      length-append (to_be_bytes w16 (length run.text)) (flat_map scalar_bytes run.text),
      length-append (id_bytes run.id ++ id_bytes run.section ++ origin_bytes run.left ++ origin_bytes run.right) (text_bytes run.text),
      length-append (id_bytes run.id ++ id_bytes run.section ++ origin_bytes run.left) (origin_bytes run.right),
      length-append (id_bytes run.id ++ id_bytes run.section) (origin_bytes run.left),
    )

pub frame_short : (g : Grammar) (framed : Framed) → IsFrame g framed → length framed.bytes ≤ LONGEST_FRAME
frame_short g framed is = omega (arith, item_short g is.item is.is_item, ap length is.bytes_are)

pub too_long : (g : Grammar) (bytes : List ℕ) → LONGEST_FRAME < length bytes → IsFrameStage IsNeither g bytes
too_long g bytes long = (
  λ f. omega (arith, long, frame_short g _ f.1),
  λ p. omega (arith, long, frame_short g p.framed p.is_frame, ap length p.front, length-append bytes p.more),
)

-- nothing came
pub awaits_all : (g : Grammar) → Awaits g (Kind g) [] 0
awaits_all g = record {
  rest = λ more. (λ f. (f.1.item, f.1.is_item, f.1.bytes_are), λ t. (item_ops t.0, record { item = t.0; is_item = t.1; bytes_are = t.2; ops_are = refl }));
  short = omega arith;
  sound = tt;
}

size_some : (due : Due) → IsSoundDue due → 0 < field_size due
size_some (Kind g) s = omega arith
size_some Run s = omega arith
size_some (Fields (suc i) o last) s = omega arith
size_some (Fields zero (suc o) last) s = omega arith
size_some (Fields zero zero Nothing) s = omega arith
size_some (Fields zero zero (Scalars n)) s = omega arith
size_some (Fields zero zero (Count most)) s = omega arith
size_some (Fields zero zero Title) s = omega arith
size_some (Fields zero zero (Text len)) s = s.0
size_some (Fields zero zero Names) s = omega arith
size_some (Fields zero zero Code) s = omega arith
size_some (Fields zero zero Length) s = omega arith
size_some (Fields zero zero (Body len)) s = s.0

-- after a whole field the next is due
pub awaits_next : (g : Grammar) (due next : Due) (before bytes all : List ℕ) (came none : ℕ) → Awaits g due before came → LeavesDue bytes due next → before ++ bytes ≡ all
    → none ≡ 0 → Awaits g next all none
awaits_next g due next before bytes all came none a p is at =
    let regroup : (more : List ℕ) → before ++ (bytes ++ more) ≡ all ++ more = λ more. sym (append_assoc before bytes more) ∙ ap (λ b. b ++ more) is in
    record {
      rest = λ more. (
        λ f. (p.rest more).0 ((a.rest (bytes ++ more)).0 (subst (IsFrameOf g) (sym (regroup more)) f)),
        λ t. subst (IsFrameOf g) (regroup more) ((a.rest (bytes ++ more)).1 ((p.rest more).1 t)),
      );
      short = omega (arith, at, size_some next p.sound);
      sound = p.sound;
    }

-- the bytes of the field, with the one that came, stand after those before it
pub with_field : (bytes : List ℕ) (len field byte : ℕ) → field ≤ len → len < length bytes
    → take field bytes ++ take (len + 1 - field) (drop field (set bytes len byte)) ≡ take len bytes ++ byte ∷ []
with_field bytes len field byte p q =
    let all : field + (len + 1 - field) ≡ len + 1 = omega (arith, p) in
    ap (λ t. t ++ take (len + 1 - field) (drop field (set bytes len byte))) (sym (take-set-le field bytes len byte p)) ∙ sym (take-add field (len + 1 - field) (set bytes len byte))
    ∙ ap (λ n. take n (set bytes len byte)) all ∙ take_more_set bytes len byte q

-- a front of the bytes with the field after it
pub next_field : (bytes : List ℕ) (at end : ℕ) → at ≤ end → take at bytes ++ take (end - at) (drop at bytes) ≡ take end bytes
next_field bytes at end le = let all : at + (end - at) ≡ end = omega (arith, le) in sym (take-add at (end - at) bytes) ∙ ap (λ n. take n bytes) all
