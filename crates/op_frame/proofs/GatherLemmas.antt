-- Operations that are given at once, as calls of the reader give them.
use Rattle.std.proofs.Common.{◌≡◌, ℕ, zero, suc, ◌+◌, ◌-◌, ◌*◌, ◌<◌, ◌≤◌, List, [], ◌∷◌, ◌++◌, length, take, drop, true, refl, ap, sym, subst, ◌∙◌, arith, append_assoc, false}
use Rattle.std.proofs.Common.{length-append, length-drop}
use Rattle.std.specs.Prelude.{IfSome, ◌^◌, Option, Some, None, Ok, flat_map, All}
use Rattle.std.specs.Char.{IsScalar}
use Rattle.std.specs.Io.KnownBytes.{prepend_known}
use Rattle.std.proofs.lemmas.List.{append-nil, drop-drop, length-take-le, take-append-drop, take_all}
use Rattle.std.proofs.lemmas.List.Elements.{All-head, All-tail}
use Rattle.fugue_ids.specs.Identifiers.{Identifier}
use Rattle.fugue_ids.specs.declared.op.Op.{Op}
use Rattle.fugue_ids.specs.declared.op.Op.TheVariants.{Delete, Note, Section, Text}
use Rattle.fugue_ids.specs.declared.run.RunStart.{RunStart}
use Rattle.fugue_ids.specs.Runs.{id_after, in_a_row, left_after, next_id, run_from, start_after, text_by, text_in}
use Rattle.fugue_ids.proofs.RunLemmas.{length-typed, none_after, typed-append}
use Rattle.op_runs.specs.Deletions.{deletes_up}
use Rattle.op_runs.proofs.DeletionLemmas.{deletes-append}
use Rattle.outer_ports.specs.Sources.{SourceView}
use Rattle.origin_model.specs.declared.grammar.Grammar.{Grammar}
use Rattle.origin_model.specs.frames.Frames.{Framed, IsFrame, Typed, run_ops, scalar_bytes}
use Rattle.origin_model.proofs.SharedLemmas.{frame_wide, length-scalars}
use Rattle.op_frame.specs.Firsts.{StartsWith}
use Rattle.op_frame.specs.FrameFronts.{IsScalarBytes}
use Rattle.op_frame.specs.Headers.{IsHeld, after_held, held_ops, run_at, text_scalars}
use Rattle.op_frame.specs.NextRuns.{Gathers, GathersDeletes, GathersOne, GathersTexts, GaveMore, GivesAll, GivesMany, GivesOn, IsOpFront, IsReachedOp, IsRunFront, IsTextAfter}
use Rattle.op_frame.specs.NextRuns.{RisesBy, TakesHeld, TakesTexts, start_in}
use Rattle.op_frame.specs.declared.next_ops.NextOps.TheVariants.{Deletes, Run}
use Rattle.op_frame.specs.Readers.{AnswersBy, FrameReading, Gave, Nexts, RisesByThree, held as held_back, read}
use Rattle.op_frame.specs.declared.fault.FrameFault.{FrameFault}
use Rattle.op_frame.specs.declared.header.RunHeader.{RunHeader}
use Rattle.op_frame.proofs.AnswerLemmas.{answers_by}
use Rattle.op_frame.proofs.CodeLemmas.{scalar_code}
use Rattle.op_frame.proofs.DecodingLemmas.{same_meaning}
use Rattle.op_frame.proofs.HeaderLemmas.{scalars_are, text_there}
use Rattle.op_frame.proofs.LetterLemmas.{letter_whole, letter_within}
use Rattle.op_frame.proofs.ReaderLemmas.{advances_by, reading_at}
use Rattle.op_frame.proofs.StreamLemmas.{gave_more, rises}
use Rattle.op_frame.proofs.SpecifiedLemmas.{shows}
use Rattle.fugue_ids.proofs.JoinLemmas.{prepend_twice}

-- a reader without a fault that holds these operations back
abbrev pub standing : Grammar → (limit : ℕ) → List Op → List ℕ → (offset last : ℕ) → FrameReading
standing g limit todo unread offset last = record { grammar = g; limit = limit; todo = todo; unread = unread; offset = offset; last = last; fault = None }

-- what is held back is given, one operation after another
pub gives_held_back : (g : Grammar) (limit : ℕ) (ops : List Op) (unread : List ℕ) (offset last : ℕ) (source : SourceView) → offset + length unread ≤ limit
    → GivesOn (standing g limit ops unread offset last) (standing g limit [] unread offset last) source ops
gives_held_back g limit [] unread offset last source inside = refl
gives_held_back g limit (op ∷ ops) unread offset last source inside = (
  standing g limit ops unread offset last,
  record {
    answer = λ none. absurd (cc none);
    at = tt;
    gives = held_back refl refl refl refl refl;
    moves = tt;
    advances = advances_by _ _ (Ok (Some op)) refl refl inside inside (λ is. cc is) tt refl;
  },
  gives_held_back g limit ops unread offset last source inside,
)

-- the operations of a frame at the front of what the reader has are given
module _ (g : Grammar) (limit offset last len : ℕ) (window : List ℕ) (source : SourceView) (inside : offset + length window ≤ limit) (within : len ≤ length window) where
  behind : offset + len + length (drop len window) ≤ limit
  behind = omega (arith, inside, within, length-drop len window)

  gives_frame : (op : Op) (ops : List Op) → IsFrame g (record { bytes = take len window; ops = op ∷ ops })
      → GivesOn (standing g limit [] window offset last) (standing g limit [] (drop len window) (offset + len) offset) source (op ∷ ops)
  gives_frame op ops is =
      let framed : Framed = record { bytes = take len window; ops = op ∷ ops } in
      let long : length (take len window) ≡ len = length-take-le len window within in (
        standing g limit ops (drop len window) (offset + len) offset,
        record {
          answer = λ none. shows (AnswersBy g (Ok (Some op)) offset (limit - offset)) window source.left (prepend_known window source.left) refl
              (λ more specified. answers_by g (Ok (Some op)) offset (limit - offset) (window ++ more) (record {
                framed = framed;
                is_frame = is;
                others = ops;
                first = refl;
                within = omega (arith, long, within, inside);
                rest = drop len window ++ more;
                split = ap (λ (l : List ℕ). l ++ more) (sym (take-append-drop len window)) ∙ append_assoc (take len window) (drop len window) more;
              }));
          at = tt;
          gives = read refl framed is refl
              (ap (λ (l : List ℕ). prepend_known l source.left) (sym (take-append-drop len window)) ∙ sym (prepend_twice (take len window) (drop len window) source.left))
              (ap (λ (n : ℕ). offset + n) (sym long)) refl;
          moves = tt;
          advances = advances_by _ _ (Ok (Some op)) refl refl inside behind (λ is. cc is) tt refl;
        },
        gives_held_back g limit ops (drop len window) (offset + len) offset source behind,
      )

  pub gives_delete : (x : Identifier) → IsFrame g (record { bytes = take len window; ops = Delete x ∷ [] })
      → GivesOn (standing g limit [] window offset last) (standing g limit [] (drop len window) (offset + len) offset) source (Delete x ∷ [])
  gives_delete x is = gives_frame (Delete x) [] is

  pub gives_texts : (start : RunStart) (text : List ℕ) → 0 < length text → IsFrame g (record { bytes = take len window; ops = run_from start text })
      → GivesOn (standing g limit [] window offset last) (standing g limit [] (drop len window) (offset + len) offset) source (run_from start text)
  gives_texts start [] some is = absurd (omega (arith, some))
  gives_texts start (ch ∷ text) some is = gives_frame (text_by start ch) (in_a_row (next_id start.id) start.section (Some start.id) start.right text) is

-- some operations and then others
pub gives_then : (old mid new : FrameReading) (source : SourceView) (ops more : List Op) → GivesOn old mid source ops → GivesOn mid new source more
    → GivesOn old new source (ops ++ more)
gives_then old mid new source [] more same on = subst (λ (r : FrameReading). GivesOn r new source more) same on
gives_then old mid new source (op ∷ ops) more p on = (p.0, p.1, gives_then p.0 mid new source ops more p.2 on)

-- so many after the first, and so many more
pub further : (start : RunStart) (n k : ℕ) → start_after (start_after start n) k ≡ start_after start (n + k)
further start n k = λ i. record { id = id_is i; section = start.section; left = left_is k i; right = start.right }
  where
    id_is : id_after (id_after start.id n) k ≡ id_after start.id (n + k)
    id_is = let e : start.id.counter + n + k ≡ start.id.counter + (n + k) = omega arith in λ i. record { replica = start.id.replica; counter = e i }

    left_is : (k : ℕ) → left_after (left_after start.left start.id n) (id_after start.id n) k ≡ left_after start.left start.id (n + k)
    left_is zero = let e : n ≡ n + 0 = omega arith in ap (left_after start.left start.id) e
    left_is (suc k) =
        let e : suc (n + k) ≡ n + suc k = omega arith in
        let counter : start.id.counter + n + k ≡ start.id.counter + (n + k) = omega arith in
        (λ i. Some (record { replica = start.id.replica; counter = counter i })) ∙ ap (left_after start.left start.id) e

-- a run and what goes on with it
pub run-append : (start : RunStart) (text more : List ℕ) → run_from start (text ++ more) ≡ run_from start text ++ run_from (start_after start (length text)) more
run-append start text more = typed-append start.id start.section start.left start.right text more

-- the first Text and those after it
pub run_after_first : (start : RunStart) (ch : ℕ) (more : List ℕ) → run_from start (ch ∷ more) ≡ text_by start ch ∷ run_from (start_after start 1) more
run_after_first start ch more = λ i. text_by start ch ∷ in_a_row (next_id start.id) start.section (Some (sym (none_after start.id) i)) start.right more

-- Texts were gathered, and then more
pub gathers_then : (start : RunStart) (a b c : List ℕ) (old mid new : FrameReading) → GathersTexts start a b old mid → GathersTexts start b c mid new
    → GathersTexts start a c old new
gathers_then start a b c old mid new p q = record {
  more = p.more ++ q.more;
  text_is = q.text_is ∙ ap (λ (l : List ℕ). l ++ q.more) p.text_is ∙ append_assoc a p.more q.more;
  gives = λ source. subst (GivesOn old new source) (sym parts)
      (gives_then old mid new source (run_from (start_after start (length a)) p.more) (run_from (start_after start (length b)) q.more) (p.gives source) (q.gives source));
  counters = q.counters;
  no_fault = q.no_fault;
  limit = q.limit ∙ p.limit;
  short = omega (arith, p.short, q.short, length-append p.more q.more);
}
  where
    long : length a + length p.more ≡ length b
    long = sym (length-append a p.more) ∙ ap length (sym p.text_is)

    parts : run_from (start_after start (length a)) (p.more ++ q.more) ≡ run_from (start_after start (length a)) p.more ++ run_from (start_after start (length b)) q.more
    parts = run-append (start_after start (length a)) p.more q.more
        ∙ ap (λ (s : RunStart). run_from (start_after start (length a)) p.more ++ run_from s q.more) (further start (length a) (length p.more) ∙ ap (start_after start) long)

-- none yet
pub gathers_none : (start : RunStart) (text : List ℕ) (reader : FrameReading) → start.id.counter + length text ≤ 2 ^ 32 → reader.fault ≡ None
    → GathersTexts start text text reader reader
gathers_none start text reader counters fault =
    record { more = []; text_is = sym (append-nil text); gives = λ source. refl; counters = counters; no_fault = fault; limit = refl; short = omega arith }

-- Deletes were gathered, and then one more
pub one_delete_more : (x : Identifier) (count : ℕ) (old mid new : FrameReading) → count < 1024 → GathersDeletes x count old mid → GathersOne x count mid new
    → GathersDeletes x (count + 1) old new
one_delete_more x count old mid new few p q = record {
  some = omega arith;
  gives = λ source. subst (GivesOn old new source) (sym parts)
      (gives_then old mid new source (deletes_up (id_after x 1) (count - 1)) (Delete (id_after x count) ∷ []) (p.gives source) (q.gives source));
  counters = omega (arith, q.counters);
  few = omega (arith, few);
  no_fault = q.no_fault;
  short = omega (arith, p.short, q.short);
}
  where
    some : 0 < count
    some = p.some

    parts : deletes_up (id_after x 1) (count + 1 - 1) ≡ deletes_up (id_after x 1) (count - 1) ++ Delete (id_after x count) ∷ []
    parts =
        let e : count + 1 - 1 ≡ (count - 1) + 1 = omega (arith, some) in
        let at : x.counter + 1 + (count - 1) ≡ x.counter + count = omega (arith, some) in
        ap (deletes_up (id_after x 1)) e ∙ deletes-append false (id_after x 1) (count - 1) 1
        ∙ (λ i. deletes_up (id_after x 1) (count - 1) ++ Delete (record { replica = x.replica; counter = at i }) ∷ [])

-- none yet
pub no_delete_more : (x : Identifier) (reader : FrameReading) → x.counter < 2 ^ 32 → reader.fault ≡ None → GathersDeletes x 1 reader reader
no_delete_more x reader fits fault = record { some = omega arith; gives = λ source. refl; counters = omega (arith, fits); few = omega arith; no_fault = fault; short = omega arith }

-- a Delete, and those that go on with it
pub gathers_row : (x : Identifier) (count : ℕ) (text : List ℕ) (old new : FrameReading) → text ≡ [] → GathersDeletes x count old new
    → Gathers (Delete x) (Deletes x count) text old new
gathers_row x count text old new empty p = record {
  others = deletes_up (id_after x 1) (count - 1);
  ops_are = let e : count ≡ suc (count - 1) = omega (arith, p.some) in ap (deletes_up x) e;
  gives = p.gives;
  sound = (p.counters, p.few);
  short = omega (arith, p.short, ap length empty);
}

-- how many scalars are held back
scalars_long : (header : RunHeader) (window : List ℕ) → IsHeld window header → length (text_scalars header.count window) ≡ header.count
scalars_long header window h = (λ i. length (text_scalars (sym h.count i) (h.split i))) ∙ ap length (scalars_are h.text h.rest h.scalars) ∙ h.count

-- what gathering did, with at least one Text
abbrev pub GathersSome : RunStart → (old_text text : List ℕ) → (old new : FrameReading) → Type 0
GathersSome start old_text text old new = GathersTexts start old_text text old new × RisesByThree old new × (new.offset ≤ new.limit)

module _ (g : Grammar) (limit offset last : ℕ) (start : RunStart) (old_text text window new : List ℕ) where
  -- the Texts that were held back
  pub gathers_held : (header : RunHeader) → IsHeld window header → offset + length (drop (3 * header.count) window) ≤ limit → TakesHeld true start header old_text text window new
      → GathersSome start old_text text (standing g limit (held_ops (Some header) window) (drop (3 * header.count) window) offset last) (standing g limit [] new offset last)
  gathers_held header h inside (goes, text_is, rest) =
      let scalars : List ℕ = text_scalars header.count window in
      let count : length scalars ≡ header.count = scalars_long header window h in
      let at : header.id.counter ≡ start.id.counter + length old_text = ap (λ (s : RunStart). s.id.counter) goes in
      let todo : length (held_ops (Some header) window) ≡ length scalars = length-typed header.id header.section header.left header.right scalars in (
        record {
          more = scalars;
          text_is = text_is;
          gives = λ source. subst
              (λ (l : List ℕ). GivesOn (standing g limit (held_ops (Some header) window) (drop (3 * header.count) window) offset last) (standing g limit [] l offset last) source
              (run_from (start_after start (length old_text)) scalars)) (sym rest)
              (subst (λ (s : RunStart). GivesOn (standing g limit (held_ops (Some header) window) (drop (3 * header.count) window) offset last)
              (standing g limit [] (drop (3 * header.count) window) offset last) source (run_from s scalars)) goes
              (gives_held_back g limit (held_ops (Some header) window) (drop (3 * header.count) window) offset last source inside));
          counters = omega (arith, ap length text_is, length-append old_text scalars, count, at, h.counters_fit);
          no_fault = refl;
          limit = refl;
          short = omega (arith, todo, ap length rest);
        },
        omega (arith, todo, count, h.some),
        omega (arith, inside),
      )

  -- the Texts of a frame
  pub gathers_frame : (len : ℕ) → offset + length window ≤ limit → TakesTexts g start old_text text window new len
      → GathersSome start old_text text (standing g limit [] window offset last) (standing g limit [] new (offset + len) offset)
  gathers_frame len inside t =
      let next : RunStart = start_after start (length old_text) in
      let size = frame_wide g (record { bytes = take len window; ops = run_from next t.more }) t.is_frame in
      let ops : length (run_from next t.more) ≡ length t.more = length-typed next.id next.section next.left next.right t.more in (
        record {
          more = t.more;
          text_is = t.text_is;
          gives = λ source. subst (λ (l : List ℕ). GivesOn (standing g limit [] window offset last) (standing g limit [] l (offset + len) offset) source (run_from next t.more))
              (sym t.rest)
              (gives_texts g limit offset last len window source inside t.within next t.more t.some t.is_frame);
          counters = t.counters;
          no_fault = refl;
          limit = refl;
          short = omega (arith, size, ops, length-take-le len window t.within, ap length t.rest, length-drop len window);
        },
        omega (arith, size, ops, t.some, length-take-le len window t.within),
        omega (arith, inside, t.within),
      )

-- a scalar stands at its place in the bytes of all
pub record ScalarAt (text bytes : List ℕ) (k : ℕ) : Type 0 where
  pub ch : ℕ
  pub is : IsScalar ch
  pub one_more : take (k + 1) text ≡ take k text ++ ch ∷ []
  pub others : List ℕ
  pub split : drop (3 * k) bytes ≡ scalar_bytes ch ++ others

scalar_in : (text rest : List ℕ) → All IsScalar text → (k : ℕ) → k < length text → ScalarAt text (flat_map scalar_bytes text ++ rest) k
scalar_in [] rest all k within = absurd (omega (arith, within))
scalar_in (c ∷ text) rest all zero within = record {
  ch = c;
  is = All-head IsScalar c text all;
  one_more = refl;
  others = flat_map scalar_bytes text ++ rest;
  split = append_assoc (scalar_bytes c) (flat_map scalar_bytes text) rest;
}
scalar_in (c ∷ text) rest all (suc k) within =
    let p = scalar_in text rest (All-tail IsScalar c text all) k (omega (arith, within)) in
    let place : suc k + 1 ≡ suc (k + 1) = omega arith in
    let size : 3 * suc k ≡ 3 + 3 * k = omega arith in
    let bytes : List ℕ = flat_map scalar_bytes (c ∷ text) ++ rest in
    record {
      ch = p.ch;
      is = p.is;
      one_more = ap (λ (n : ℕ). take n (c ∷ text)) place ∙ ap (λ (l : List ℕ). c ∷ l) p.one_more;
      others = p.others;
      split = ap (λ (n : ℕ). drop n bytes) size ∙ sym (drop-drop (3 * k) 3 bytes) ∙ p.split;
    }

pub scalar_at : (header : RunHeader) (bytes : List ℕ) → IsHeld bytes header → (k : ℕ) → k < header.count → ScalarAt (text_scalars header.count bytes) bytes k
scalar_at header bytes h k within =
    let same : text_scalars header.count bytes ≡ h.text = (λ i. text_scalars (sym h.count i) (h.split i)) ∙ scalars_are h.text h.rest h.scalars in
    subst (λ (t : List ℕ). ScalarAt t bytes k) (sym same)
    (subst (λ (b : List ℕ). ScalarAt h.text b k) (sym h.split) (scalar_in h.text h.rest h.scalars k (omega (arith, within, h.count))))

-- the scalars are within the bytes
pub scalars_within : (header : RunHeader) (bytes : List ℕ) → IsHeld bytes header → 3 * header.count ≤ length bytes
scalars_within header bytes h = omega (arith, ap length h.split, length-append (flat_map scalar_bytes h.text) h.rest, length-scalars h.text, h.count)

-- a scalar at its place, put after those before it
module _ (header : RunHeader) (bytes : List ℕ) (h : IsHeld bytes header) (k : ℕ) where
  abbrev pub from_place : List ℕ
  from_place = take (length bytes - 3 * k) (drop (3 * k) bytes)

  all_from_place : from_place ≡ drop (3 * k) bytes
  all_from_place = take_all (length bytes - 3 * k) (drop (3 * k) bytes) (omega (arith, length-drop (3 * k) bytes))

  pub place_within : k < header.count → 3 * k ≤ length bytes
  place_within more = omega (arith, scalars_within header bytes h)

  pub scalar_first_at : k < header.count → StartsWith IsScalarBytes from_place
  scalar_first_at more =
      let p = scalar_at header bytes h k more in
      (scalar_bytes p.ch, p.others, (p.ch, p.is, refl), tt, all_from_place ∙ p.split)

  pub put_more : k < header.count → (old text new : List ℕ) (ch : ℕ) → text ≡ old ++ take k (text_scalars header.count bytes) → new ≡ text ++ ch ∷ []
      → from_place ≡ scalar_bytes ch ++ drop 3 from_place → IsScalar ch
      → new ≡ old ++ take (k + 1) (text_scalars header.count bytes)
  put_more more old text new ch before put split is =
      let p = scalar_at header bytes h k more in
      let same : p.ch ≡ ch = (scalar_code.once p.ch ch p.others (drop 3 from_place) p.is is (sym p.split ∙ sym all_from_place ∙ split)).0 in
      put ∙ ap (λ (l : List ℕ). l ++ ch ∷ []) before ∙ append_assoc old (take k (text_scalars header.count bytes)) (ch ∷ [])
      ∙ ap (λ (c : ℕ). old ++ (take k (text_scalars header.count bytes) ++ c ∷ [])) (sym same) ∙ ap (λ (l : List ℕ). old ++ l) (sym p.one_more)

  pub put_all : header.count ≤ k → (old text : List ℕ) → text ≡ old ++ take k (text_scalars header.count bytes) → text ≡ old ++ text_scalars header.count bytes
  put_all over old text before = before ∙ ap (λ (l : List ℕ). old ++ l) (take_all k (text_scalars header.count bytes) (omega (arith, over, scalars_long header bytes h)))

-- the frame of one Text goes on with the run
pub takes_text : (g : Grammar) (start : RunStart) (count ch len : ℕ) (bytes old_text text new : List ℕ) → count ≡ length old_text → IsTextAfter start count ch len bytes
    → text ≡ old_text ++ ch ∷ [] → new ≡ drop len bytes
    → TakesTexts g start old_text text bytes new len
takes_text g start count ch len bytes old_text text new counted (fits, there) put rest =
    let op : Op = text_by (start_after start count) ch in
    record {
      more = ch ∷ [];
      some = omega arith;
      within = letter_within op len bytes there;
      is_frame = subst (λ (n : ℕ). IsFrame g (record { bytes = take len bytes; ops = run_from (start_after start n) (ch ∷ []) })) counted
          (letter_whole op len bytes there g tt);
      text_is = put;
      rest = rest;
      counters = omega (arith, fits, counted, ap length put, length-append old_text (ch ∷ []));
    }

-- the frame of a run
module _ (g : Grammar) (header : RunHeader) (len : ℕ) (bytes : List ℕ) (f : IsRunFront g header len bytes) where
  pub run_within : 3 * header.count ≤ len
  run_within = (text_there header bytes len f.within f.header_is).within

  abbrev pub scalars_at : List ℕ → List ℕ
  scalars_at s = take (length s - (len - 3 * header.count)) (drop (len - 3 * header.count) s)

  pub run_held : (s : List ℕ) → s ≡ bytes → IsHeld (scalars_at s) header
  run_held s same =
      subst (λ (b : List ℕ). IsHeld b header)
      (sym (take_all (length s - (len - 3 * header.count)) (drop (len - 3 * header.count) s) (omega (arith, length-drop (len - 3 * header.count) s))))
      (subst (λ (b : List ℕ). IsHeld (drop (len - 3 * header.count) b) header) (sym same) (text_there header bytes len f.within f.header_is).held)

  -- it goes on with the run
  pub takes_run_texts : (start : RunStart) (s old_text text new : List ℕ) → s ≡ bytes → start_in header ≡ start_after start (length old_text)
      → text ≡ old_text ++ text_scalars header.count (scalars_at s) → new ≡ drop len bytes
      → TakesTexts g start old_text text bytes new len
  takes_run_texts start s old_text text new same goes put rest =
      let t = text_there header bytes len f.within f.header_is in
      let scalars : List ℕ = text_scalars header.count (scalars_at s) in
      let long : length scalars ≡ header.count = scalars_long header (scalars_at s) (run_held s same) in
      let at : header.id.counter ≡ start.id.counter + length old_text = ap (λ (r : RunStart). r.id.counter) goes in
      let place : scalars_at s ≡ drop (len - 3 * header.count) bytes
      = take_all (length s - (len - 3 * header.count)) (drop (len - 3 * header.count) s) (omega (arith, length-drop (len - 3 * header.count) s))
      ∙ ap (drop (len - 3 * header.count)) same in
      let ops : run_from (start_after start (length old_text)) scalars ≡ run_ops (run_at header f.header_is.text)
      = ap (λ (r : RunStart). run_from r scalars) (sym goes) ∙ ap (λ (b : List ℕ). run_from (start_in header) (text_scalars header.count b)) place ∙ t.ops in
      record {
        more = scalars;
        some = omega (arith, long, t.held.some);
        within = f.within;
        is_frame = same_meaning g (take len bytes) (run_from (start_after start (length old_text)) scalars) f.is_frame
            (record { item = Typed (run_at header f.header_is.text); is_item = f.header_is.has_frame; bytes_are = f.header_is.bytes_are; ops_are = ops });
        text_is = put;
        rest = rest;
        counters = omega (arith, ap length put, length-append old_text scalars, long, at, t.held.counters_fit);
      }

-- the same, as the reader's own fields say it
module _ (g : Grammar) (limit offset last : ℕ) (start : RunStart) (old_text text window new : List ℕ) (held : Option RunHeader) (fault : Option FrameFault) (none : fault ≡ None)
    (inside : offset + length (after_held held window) ≤ limit) where
  pub gathers_held_at : (header : RunHeader) → held ≡ Some header → IsHeld window header → TakesHeld true start header old_text text window new
      → GathersSome start old_text text (reading_at g limit held window offset last fault) (reading_at g limit None new offset last fault)
  gathers_held_at header is h took =
      subst (λ (f : Option FrameFault). GathersSome start old_text text (reading_at g limit held window offset last f) (reading_at g limit None new offset last f)) (sym none)
      (subst (λ (o : Option RunHeader). GathersSome start old_text text (reading_at g limit o window offset last None) (reading_at g limit None new offset last None)) (sym is)
      (gathers_held g limit offset last start old_text text window new header h (subst (λ (o : Option RunHeader). offset + length (after_held o window) ≤ limit) is inside) took))

  pub gathers_frame_at : (len : ℕ) → held ≡ None → TakesTexts g start old_text text window new len
      → GathersSome start old_text text (reading_at g limit held window offset last fault) (reading_at g limit held new (offset + len) offset fault)
  gathers_frame_at len is took =
      subst (λ (f : Option FrameFault). GathersSome start old_text text (reading_at g limit held window offset last f) (reading_at g limit held new (offset + len) offset f))
      (sym none)
      (subst (λ (o : Option RunHeader). GathersSome start old_text text (reading_at g limit o window offset last None) (reading_at g limit o new (offset + len) offset None))
      (sym is)
      (gathers_frame g limit offset last start old_text text window new len (subst (λ (o : Option RunHeader). offset + length (after_held o window) ≤ limit) is inside) took))

-- the frame of a Delete, as the reader's own fields say it
pub gathers_delete_at : (g : Grammar) (limit offset last : ℕ) (x : Identifier) (count len : ℕ) (window new : List ℕ) (held : Option RunHeader) (fault : Option FrameFault)
    → fault ≡ None → offset + length (after_held held window) ≤ limit → held ≡ None → x.counter + count < 2 ^ 32 → IsOpFront (Delete (id_after x count)) len window
    → new ≡ drop len window
    → GathersOne x count (reading_at g limit held window offset last fault) (reading_at g limit held new (offset + len) offset fault)
gathers_delete_at g limit offset last x count len window new (Some header) fault none inside is fits there rest = absurd (cc is)
gathers_delete_at g limit offset last x count len window new None fault none inside is fits there rest =
    let y : Identifier = id_after x count in
    record {
      gives = λ source. subst
          (λ (f : Option FrameFault). GivesOn (reading_at g limit None window offset last f) (reading_at g limit None new (offset + len) offset f) source (Delete y ∷ []))
          (sym none)
          (subst (λ (l : List ℕ). GivesOn (standing g limit [] window offset last) (standing g limit [] l (offset + len) offset) source (Delete y ∷ [])) (sym rest)
          (gives_delete g limit offset last len window source inside (letter_within (Delete y) len window there) y (letter_whole (Delete y) len window there g tt)));
      counters = fits;
      no_fault = none;
      short = omega (arith, ap length rest, length-drop len window);
    }

-- a Text is what it says, with its scalar
pub text_is_by : (op : Op) (start : RunStart) (ch : ℕ) → text_in op ≡ Some (start, ch) → op ≡ text_by start ch
text_is_by (Section id l r title) start ch is = absurd (cc is)
text_is_by (Text id s l r c) start ch is =
    let first : RunStart = record { id = id; section = s; left = l; right = r } in
    let both : ◌≡◌ {A = RunStart × ℕ} (first, c) (start, ch) = cc is in
    λ i. text_by (both i).0 (both i).1
text_is_by (Delete target) start ch is = absurd (cc is)
text_is_by (Note id n c b) start ch is = absurd (cc is)

-- a Text, and those that go on with it
pub gathers_run : (op : Op) (start : RunStart) (ch : ℕ) (one text : List ℕ) (old new : FrameReading) → text_in op ≡ Some (start, ch) → one ≡ ch ∷ []
    → GathersTexts start one text old new
    → Gathers op (Run start) text old new
gathers_run op start ch one text old new is first p = record {
  others = run_from (start_after start 1) p.more;
  ops_are = ap (run_from start) (p.text_is ∙ ap (λ (l : List ℕ). l ++ p.more) first) ∙ run_after_first start ch p.more
      ∙ ap (λ (o : Op). o ∷ run_from (start_after start 1) p.more) (sym (text_is_by op start ch is));
  gives = λ source. subst (λ (l : List ℕ). GivesOn old new source (run_from (start_after start (length l)) p.more)) first (p.gives source);
  sound = p.counters;
  short = omega (arith, p.short, ap length p.text_is, length-append one p.more, ap length first);
}

-- What giving operations one after another leaves

nothing_more : (r : FrameReading) (source : SourceView) → GaveMore r r source.left source.left []
nothing_more r source specified ops so = subst (λ (l : List Op). Gave specified l r source.left) (sym (append-nil ops)) so

one_more : (old new : FrameReading) (before after : SourceView) (op : Op) → Nexts old new before after (Ok (Some op)) → GaveMore old new before.left after.left (op ∷ [])
one_more old new before after op nexts specified ops so = gave_more specified ops op old new before.left after.left nexts.advances.grammar so nexts.gives

more_then : (a b c : FrameReading) (x y z : Option (List ℕ)) (front more : List Op) → GaveMore a b x y front → GaveMore b c y z more → GaveMore a c x z (front ++ more)
more_then a b c x y z front more p q specified ops so =
    subst (λ (l : List Op). Gave specified l c z) (append_assoc ops front more) (q specified (ops ++ front) (p specified ops so))

-- what is left behind some operations that were given without the source
record LeftOn (old new : FrameReading) (source : SourceView) (ops : List Op) : Type 0 where
  gave : GaveMore old new source.left source.left ops
  rises : RisesBy old new (length ops)
  grammar : new.grammar ≡ old.grammar
  limit : new.limit ≡ old.limit
  within : old.offset ≤ old.limit → new.offset ≤ new.limit
  no_fault : old.fault ≡ None → new.fault ≡ None

left_on : (old new : FrameReading) (source : SourceView) (ops : List Op) → GivesOn old new source ops → LeftOn old new source ops
left_on old new source [] same = subst (λ (r : FrameReading). LeftOn old r source []) (sym same) (record {
  gave = nothing_more old source;
  rises = omega arith;
  grammar = refl;
  limit = refl;
  within = λ inside. inside;
  no_fault = λ none. none;
})
left_on old new source (op ∷ ops) p =
    let on = left_on p.0 new source ops p.2 in
    let one = p.1.advances in
    let up : RisesByThree old p.0 = rises op old p.0 source.left source.left p.1.gives in
    record {
      gave = more_then old p.0 new source.left source.left source.left (op ∷ []) ops (one_more old p.0 source source op p.1) on.gave;
      rises = omega (arith, up, on.rises);
      grammar = on.grammar ∙ one.grammar;
      limit = on.limit ∙ one.limit;
      within = λ inside. on.within (omega (arith, one.within));
      no_fault = λ none. on.no_fault one.fault;
    }

-- what is left behind the operations that one call gave
pub gives_many : (old new : FrameReading) (before after : SourceView) (ops : List Op) → GivesAll old new before after ops → GivesMany old new before after ops
gives_many old new before after [] none = absurd none
gives_many old new before after (op ∷ ops) p =
    let on = left_on p.0 new after ops p.2 in
    let one = p.1.advances in
    let up : RisesByThree old p.0 = rises op old p.0 before.left after.left p.1.gives in
    record {
      some = omega arith;
      gave = more_then old p.0 new before.left after.left after.left (op ∷ []) ops (one_more old p.0 before after op p.1) on.gave;
      rises = omega (arith, up, on.rises);
      grammar = on.grammar ∙ one.grammar;
      limit = on.limit ∙ one.limit;
      within = on.within (omega (arith, one.within));
      no_fault = on.no_fault one.fault;
    }

-- an operation that is given, after those before it
reached_on : (old new : FrameReading) (source : SourceView) (front : List Op) (op : Op) (more : List Op) → GivesOn old new source (front ++ op ∷ more)
    → IsReachedOp old source source front op
reached_on old new source [] op more p = record { at = old; next = p.0; seen = source; gave = nothing_more old source; nexts = p.1; grammar = refl; limit = refl }
reached_on old new source (first ∷ front) op more p =
    let on = reached_on p.0 new source front op more p.2 in
    record {
      at = on.at;
      next = on.next;
      seen = on.seen;
      gave = more_then old p.0 on.at source.left source.left on.seen.left (first ∷ []) front (one_more old p.0 source source first p.1) on.gave;
      nexts = on.nexts;
      grammar = on.grammar ∙ p.1.advances.grammar;
      limit = on.limit ∙ p.1.advances.limit;
    }

pub reached : (old new : FrameReading) (before after : SourceView) (front : List Op) (op : Op) (more : List Op) → GivesAll old new before after (front ++ op ∷ more)
    → IsReachedOp old before after front op
reached old new before after [] op more p = record { at = old; next = p.0; seen = before; gave = nothing_more old before; nexts = p.1; grammar = refl; limit = refl }
reached old new before after (first ∷ front) op more p =
    let on = reached_on p.0 new after front op more p.2 in
    record {
      at = on.at;
      next = on.next;
      seen = on.seen;
      gave = more_then old p.0 on.at before.left after.left on.seen.left (first ∷ []) front (one_more old p.0 before after first p.1) on.gave;
      nexts = on.nexts;
      grammar = on.grammar ∙ p.1.advances.grammar;
      limit = on.limit ∙ p.1.advances.limit;
    }

-- an operation was given, and others with it
pub gives_with : (old mid new : FrameReading) (before after : SourceView) (op : Op) (ops others : List Op) → ops ≡ op ∷ others → Nexts old mid before after (Ok (Some op))
    → GivesOn mid new after others
    → GivesAll old new before after ops
gives_with old mid new before after op ops others is nexts on = subst (GivesAll old new before after) (sym is) (mid, nexts, on)

-- what is held back and not yet read is in the window
pub had_within : (held : Option RunHeader) (window : List ℕ) → IfSome held (IsHeld window) → 3 * length (held_ops held window) + length (after_held held window) ≤ length window
had_within None window h = omega arith
had_within (Some header) window h =
    let scalars : List ℕ = text_scalars header.count window in
    omega (
      arith,
      length-typed header.id header.section header.left header.right scalars,
      scalars_long header window h,
      scalars_within header window h,
      length-drop (3 * header.count) window,
    )
