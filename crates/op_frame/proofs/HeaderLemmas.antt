-- Runs whose scalars stay in bytes.
use Rattle.std.proofs.Common.{◌≡◌, ℕ, suc, ◌+◌, ◌-◌, ◌*◌, ◌<◌, ◌≤◌, List, [], ◌∷◌, ◌++◌, length, take, drop, get_or, refl, ap, sym, subst, ◌∙◌, arith, append_assoc, length-append}
use Rattle.std.proofs.Common.{length-drop}
use Rattle.std.specs.Prelude.{All, Option, Some, None, flat_map}
use Rattle.std.specs.Char.{IsScalar}
use Rattle.std.specs.Int.{from_be_bytes, to_be_bytes, w16}
use Rattle.std.proofs.Math.Seq.{drop-append_seam}
use Rattle.std.proofs.lemmas.List.{append-nil, drop-drop, length-take-le, take_all, take-append-drop}
use Rattle.std.proofs.lemmas.List.Elements.{All-head, All-tail}
use Rattle.std.proofs.lemmas.Nat.{from_be_bytes-to_be_bytes_2}
use Rattle.fugue_ids.specs.Identifiers.{Identifier}
use Rattle.fugue_ids.specs.declared.op.Op.{Op}
use Rattle.fugue_ids.specs.declared.op.Op.TheVariants.{Text as TextOp}
use Rattle.fugue_ids.specs.Runs.{in_a_row, next_id}
use Rattle.origin_model.specs.declared.grammar.Grammar.TheVariants.{Version2}
use Rattle.origin_model.specs.frames.Frames.{HasRunFrame, IsFrame, IsIdentifier, IsFrameOrigin, Run, Typed, id_bytes, origin_bytes, run_frame, run_ops, scalar_bytes, text_bytes}
use Rattle.origin_model.proofs.SharedLemmas.{length-scalars}
use Rattle.op_frame.specs.Firsts.{StartsWith}
use Rattle.op_frame.specs.FrameFronts.{IsRunAfter, IsScalarBytes}
use Rattle.op_frame.specs.Headers.{GivesHeld, HeaderIs, IsHeld, IsNextHeader, after_held, held_ops, run_at, text_scalars}
use Rattle.op_frame.specs.Steps.{TakesOff}
use Rattle.op_frame.specs.declared.header.RunHeader.{RunHeader}
use Rattle.op_frame.proofs.CodeLemmas.{identifier_code, origin_code, scalar_code}
use Rattle.op_frame.proofs.DecodingLemmas.{code_is}
use Rattle.op_frame.proofs.DueLemmas.{run_there}
use Rattle.op_frame.proofs.ItemLemmas.{run_is}

-- a scalar stands at the front
pub scalar_first : (header : RunHeader) (bytes : List ℕ) → IsHeld bytes header → StartsWith IsScalarBytes bytes
scalar_first header bytes h = by_text h.text h.scalars h.count h.split
  where
    by_text : (text : List ℕ) → All IsScalar text → length text ≡ header.count → bytes ≡ flat_map scalar_bytes text ++ h.rest → StartsWith IsScalarBytes bytes
    by_text [] all long split = absurd (omega (arith, long, h.some))
    by_text (c ∷ text) all long split = (
      scalar_bytes c,
      flat_map scalar_bytes text ++ h.rest,
      (c, All-head IsScalar c text all, refl),
      tt,
      split
          ∙ append_assoc (scalar_bytes c) (flat_map scalar_bytes text) h.rest,
    )

-- the first Text that is held back, and those after it
module _ (header : RunHeader) (bytes : List ℕ) (c : ℕ) (h : IsHeld bytes header) (split : bytes ≡ scalar_bytes c ++ drop 3 bytes) (is : IsScalar c) where
  abbrev pub after : List ℕ
  after = drop 3 bytes

  abbrev pub first_op : Op
  first_op = TextOp header.id header.section header.left header.right c

  shown : (n : ℕ) → header.count ≡ suc n
      → held_ops (Some header) bytes ≡ first_op ∷ in_a_row (next_id header.id) header.section (Some header.id) header.right (text_scalars n after)
  shown n count =
      (λ i. in_a_row header.id header.section header.left header.right (text_scalars (count i) (split i)))
      ∙ λ i. TextOp header.id header.section header.left header.right (code_is c is i)
      ∷ in_a_row (next_id header.id) header.section (Some header.id) header.right (text_scalars n after)

  later : (n : ℕ) → header.count ≡ suc n → (text : List ℕ) → All IsScalar text → length text ≡ header.count → bytes ≡ flat_map scalar_bytes text ++ h.rest
      → (others : List ℕ) × All IsScalar others × (length others ≡ n) × (after ≡ flat_map scalar_bytes others ++ h.rest)
  later n count [] all long there = absurd (omega (arith, long, count))
  later n count (d ∷ text) all long there =
      let both = scalar_code.once d c (flat_map scalar_bytes text ++ h.rest) after (All-head IsScalar d text all) is
      (sym (append_assoc (scalar_bytes d) (flat_map scalar_bytes text) h.rest) ∙ sym there ∙ split) in
      (text, All-tail IsScalar d text all, omega (arith, long, count), sym both.1)

  pub gives_held : (next : Option RunHeader) → IsNextHeader header next → GivesHeld header first_op next bytes after
  gives_held None one = record {
    first = shown 0 one;
    behind = ap (λ (n : ℕ). drop (3 * n) bytes) one;
    others = tt;
  }
  gives_held (Some next) n =
      let more : header.count ≡ suc next.count = omega (arith, n.count) in
      let size : 3 * header.count ≡ 3 + 3 * next.count = omega (arith, n.count) in
      let p = later next.count more h.text h.scalars h.count h.split in
      record {
        first = shown next.count more ∙ λ i. first_op ∷ in_a_row (sym n.id i) (sym n.section i) (sym n.left i) (sym n.right i) (text_scalars next.count after);
        behind = ap (λ (n : ℕ). drop n bytes) size ∙ sym (drop-drop (3 * next.count) 3 bytes);
        others = record {
          text = p.0;
          scalars = p.1;
          count = p.2;
          some = n.some;
          counters_fit = omega (arith, ap (λ (a : Identifier). a.counter) n.id, h.counters_fit, n.count);
          rest = h.rest;
          split = p.3;
        };
      }

-- the scalars at the front of bytes
pub scalars_are : (text rest : List ℕ) → All IsScalar text → text_scalars (length text) (flat_map scalar_bytes text ++ rest) ≡ text
scalars_are [] rest all = refl
scalars_are (c ∷ text) rest all = λ i. code_is c (All-head IsScalar c text all) i ∷ scalars_are text rest (All-tail IsScalar c text all) i

-- what stands before the scalars of a run
abbrev before_text : Run → List ℕ
before_text run = 4 ∷ [] ++ id_bytes run.id ++ id_bytes run.section ++ origin_bytes run.left ++ origin_bytes run.right ++ to_be_bytes w16 (length run.text)

-- the scalars of a run's frame at the front of bytes
pub record TextThere (header : RunHeader) (bytes rest : List ℕ) (n : ℕ) (text : List ℕ) : Type 0 where
  pub held : IsHeld bytes header
  pub ops : held_ops (Some header) bytes ≡ run_ops (run_at header text)
  pub behind : after_held (Some header) bytes ≡ rest
  pub within : 3 * header.count ≤ n

pub text_there : (header : RunHeader) (bytes : List ℕ) (n : ℕ) → n ≤ length bytes → (is : HeaderIs header (take n bytes))
    → TextThere header (drop (n - 3 * header.count) bytes) (drop n bytes) n is.text
text_there header bytes n within is = record {
  held = record {
    text = text;
    scalars = is.has_frame.text.scalars;
    count = is.count;
    some = omega (arith, is.count, is.has_frame.text.some);
    counters_fit = omega (arith, is.count, is.has_frame.counters_fit);
    rest = drop n bytes;
    split = there;
  };
  ops = ap (in_a_row header.id header.section header.left header.right)
      ((λ i. text_scalars (sym is.count i) (there i)) ∙ scalars_are text (drop n bytes) is.has_frame.text.scalars);
  behind = (λ i. drop (3 * sym is.count i) (there i)) ∙ ap (λ (k : ℕ). drop k (flat_map scalar_bytes text ++ drop n bytes)) (sym (length-scalars text))
      ∙ drop-append_seam (flat_map scalar_bytes text) (drop n bytes);
  within = omega (arith, sizes);
}
  where
    text : List ℕ
    text = is.text

    run : Run
    run = run_at header text

    whole : take n bytes ≡ before_text run ++ flat_map scalar_bytes text
    whole = is.bytes_are ∙ sym
        (append_assoc (4 ∷ [] ++ id_bytes run.id ++ id_bytes run.section ++ origin_bytes run.left ++ origin_bytes run.right) (to_be_bytes w16 (length text))
        (flat_map scalar_bytes text))

    sizes : n ≡ length (before_text run) + 3 * header.count
    sizes = sym (length-take-le n bytes within) ∙ ap length whole ∙ length-append (before_text run) (flat_map scalar_bytes text)
        ∙ ap (λ (k : ℕ). length (before_text run) + k) (length-scalars text ∙ ap (λ (k : ℕ). 3 * k) is.count)

    there : drop (n - 3 * header.count) bytes ≡ flat_map scalar_bytes text ++ drop n bytes
    there =
        let front : n - 3 * header.count ≡ length (before_text run) = omega (arith, sizes) in
        (λ i. drop (front i) (sym (take-append-drop n bytes) i)) ∙ ap (λ (l : List ℕ). drop (length (before_text run)) (l ++ drop n bytes)) whole
        ∙ ap (drop (length (before_text run))) (append_assoc (before_text run) (flat_map scalar_bytes text) (drop n bytes))
        ∙ drop-append_seam (before_text run) (flat_map scalar_bytes text ++ drop n bytes)

-- the fields before the scalars, one after the other
pub header_read : (rest r1 r2 r3 r4 : List ℕ) (id s : Identifier) (l r : Option Identifier) (n : ℕ) → IsRunAfter rest → IsIdentifier id → IsIdentifier s → IsFrameOrigin l
    → IsFrameOrigin r
    → rest ≡ id_bytes id ++ r1 → r1 ≡ id_bytes s ++ r2 → r2 ≡ origin_bytes l ++ r3 → r3 ≡ origin_bytes r ++ r4 → n < 65536 → to_be_bytes w16 n ≡ get_or r4 0 0 ∷ get_or r4 1 0 ∷ []
    → HeaderIs (record { id = id; section = s; left = l; right = r; count = n }) (4 ∷ rest)
header_read rest r1 r2 r3 r4 id s l r n b id_is s_is l_is r_is e1 e2 e3 e4 small bytes =
    let t = run_there rest b in
    let run : Run = t.run in
    let texts : List ℕ = text_bytes run.text in
    let a = identifier_code.once run.id id (id_bytes run.section ++ (origin_bytes run.left ++ (origin_bytes run.right ++ texts))) r1 t.has_frame.id id_is
    (sym (run_is run) ∙ sym t.is ∙ e1) in
    let f = identifier_code.once run.section s (origin_bytes run.left ++ (origin_bytes run.right ++ texts)) r2 t.has_frame.section s_is (a.1 ∙ e2) in
    let g = origin_code.once run.left l (origin_bytes run.right ++ texts) r3 t.has_frame.left l_is (f.1 ∙ e3) in
    let k = origin_code.once run.right r texts r4 t.has_frame.right r_is (g.1 ∙ e4) in
    let number : to_be_bytes w16 n ≡ to_be_bytes w16 (length run.text) = bytes ∙ λ i. get_or (sym k.1 i) 0 0 ∷ get_or (sym k.1 i) 1 0 ∷ [] in
    let count : n ≡ length run.text
    = sym (from_be_bytes-to_be_bytes_2 n small) ∙ ap (from_be_bytes w16) number ∙ from_be_bytes-to_be_bytes_2 (length run.text) (omega (arith, t.has_frame.text.short)) in
    let header : RunHeader = record { id = id; section = s; left = l; right = r; count = n } in
    let same : run ≡ run_at header run.text = λ i. record { id = a.0 i; section = f.0 i; left = g.0 i; right = k.0 i; text = run.text } in
    record {
      text = run.text;
      has_frame = subst HasRunFrame same t.has_frame;
      count = sym count;
      bytes_are = ap (λ (x : List ℕ). 4 ∷ x) t.is ∙ ap run_frame same;
    }

-- the first Text of a run at the front of bytes is given
pub takes_run : (header : RunHeader) (held : Option RunHeader) (op : Op) (old at new : List ℕ) (n : ℕ) → n ≤ length old → HeaderIs header (take n old)
    → at ≡ drop (n - 3 * header.count) old → GivesHeld header op held at new
    → TakesOff (record { op = op; held = held; len = n }) old new n
takes_run header held op old at new n within is there gives =
    let t = text_there header old n within is in
    record {
      is_frame = record {
        item = Typed (run_at header is.text);
        is_item = is.has_frame;
        bytes_are = is.bytes_are;
        ops_are = sym gives.first ∙ ap (held_ops (Some header)) there ∙ t.ops;
      };
      rest = sym t.behind ∙ ap (after_held (Some header)) (sym there) ∙ gives.behind;
      held = gives.others;
      len = refl;
    }

-- a run's frame, whose scalars are its last bytes
pub record RunWhole (header : RunHeader) (bytes scalars : List ℕ) : Type 0 where
  pub held : IsHeld scalars header
  pub is_frame : IsFrame Version2 (record { bytes = bytes; ops = held_ops (Some header) scalars ++ [] })

pub run_within : (header : RunHeader) (bytes : List ℕ) → HeaderIs header bytes → 3 * header.count ≤ length bytes
run_within header bytes is = (text_there header bytes (length bytes) (omega arith) (subst (HeaderIs header) (sym (take_all (length bytes) bytes (omega arith))) is)).within

pub run_whole : (header : RunHeader) (bytes : List ℕ) → HeaderIs header bytes
    → RunWhole header bytes (take (length bytes - (length bytes - 3 * header.count)) (drop (length bytes - 3 * header.count) bytes))
run_whole header bytes is =
    let all : take (length bytes) bytes ≡ bytes = take_all (length bytes) bytes (omega arith) in
    let here : HeaderIs header (take (length bytes) bytes) = subst (HeaderIs header) (sym all) is in
    let t = text_there header bytes (length bytes) (omega arith) here in
    subst (RunWhole header bytes)
    (sym (take_all (length bytes - (length bytes - 3 * header.count)) (drop (length bytes - 3 * header.count) bytes)
    (omega (arith, length-drop (length bytes - 3 * header.count) bytes))))
    (record {
      held = t.held;
      is_frame = record {
        item = Typed (run_at header here.text);
        is_item = here.has_frame;
        bytes_are = sym all ∙ here.bytes_are;
        ops_are = append-nil (held_ops (Some header) (drop (length bytes - 3 * header.count) bytes)) ∙ t.ops;
      };
    })
