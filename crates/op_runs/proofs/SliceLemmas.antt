-- The operations of parts and of slices, but for the first ones.
use Rattle.std.proofs.Common.{◌≡◌, ℕ, suc, ◌+◌, ◌-◌, ◌<◌, ◌≤◌, ◌^◌, true, false, Bool, List, [], ◌∷◌, ◌++◌, length, take, drop, get_or, refl, ap, sym, subst, ◌∙◌, arith}
use Rattle.std.proofs.Common.{append_assoc, length-append, length-drop}
use Rattle.std.specs.Prelude.{Some, All, slice_get}
use Rattle.std.proofs.lemmas.List.{drop-append-le, drop_all, drop-take, length-take, length-take-le, take_all}
use Rattle.std.proofs.lemmas.List.Elements.{All-head, All-tail}
use Rattle.std.proofs.lemmas.Option.{get_or_from_slice_get, slice_get-get_or}
use Rattle.std.proofs.Math.Seq.{drop-cons, drop-append-add, drop-append_seam, drop-drop}
use Rattle.fugue_ids.specs.Identifiers.{Identifier}
use Rattle.fugue_ids.specs.Runs.{run_from, start_after}
use Rattle.fugue_ids.specs.declared.op.Op.{Op}
use Rattle.fugue_ids.specs.declared.run.RunStart.{RunStart}
use Rattle.fugue_ids.proofs.ListLemmas.{all_before, all_after}
use Rattle.op_runs.specs.Finding.{IsPartSpot, all_len}
use Rattle.op_runs.proofs.FindLemmas.{ops_len, spot_parts}
use Rattle.fugue_ids.proofs.RunLemmas.{length-typed, run_parted}
use Rattle.op_runs.specs.Deletions.{CountersFit, deletes_by, target_by}
use Rattle.op_runs.specs.Parts.{IsSoundPart, ops_of, other_ops, part_len, part_ops}
use Rattle.op_runs.specs.Slices.{AreSliced, IsInFirst}
use Rattle.op_runs.specs.declared.part.Part.{Part}
use Rattle.op_runs.specs.declared.part.TypedPart.{TypedPart}
use Rattle.op_runs.proofs.DeletionLemmas.{deletes-append, length-deletes}
use Rattle.op_runs.proofs.PartLemmas.{has_some, part_has}

-- what stands after a front
after_front : {X : Type 0} (front xs ys : List X) (k : ℕ) → length front ≡ k → xs ≡ front ++ ys → drop k xs ≡ ys
after_front front xs ys k e f = (λ i. drop (sym e i) (f i)) ∙ drop-append_seam front ys

pub run_after : (start : RunStart) (text : List ℕ) (k : ℕ) → k ≤ length text → drop k (run_from start text) ≡ run_from (start_after start k) (drop k text)
run_after start text k h =
    let len : length (run_from start (take k text)) ≡ k = length-typed start.id start.section start.left start.right (take k text) ∙ length-take-le k text h in
    after_front (run_from start (take k text)) (run_from start text) (run_from (start_after start k) (drop k text)) k len
    (run_parted start (start_after start k) text k h (λ less. refl))

pub typed_after : (letters : List ℕ) (r : TypedPart) (skip : ℕ) → r.at + r.count ≤ length letters → skip < r.count
    → run_from (start_after r.start skip) (take (r.at + r.count - (r.at + skip)) (drop (r.at + skip) letters)) ≡ drop skip (run_from r.start (take r.count (drop r.at letters)))
typed_after letters r skip h g =
    let text : List ℕ = take r.count (drop r.at letters) in
    let len : length text ≡ r.count = length-take-le r.count (drop r.at letters) (omega (arith, h, length-drop r.at letters)) in
    let split : r.count ≡ skip + (r.count - skip) = omega (arith, g) in
    let left : r.count - skip ≡ r.at + r.count - (r.at + skip) = omega arith in
    let cut : drop skip text ≡ take (r.at + r.count - (r.at + skip)) (drop (r.at + skip) letters) =
    ap (λ k. drop skip (take k (drop r.at letters))) split ∙ drop-take skip (r.count - skip) (drop r.at letters)
    ∙ ap (take (r.count - skip)) (drop-drop skip r.at letters) ∙ ap (λ k. take k (drop (r.at + skip) letters)) left in
    ap (run_from (start_after r.start skip)) (sym cut) ∙ sym (run_after r.start text skip (omega (arith, len, g)))

pub deletes_after : (down : Bool) (target : Identifier) (count skip : ℕ) → skip < count
    → deletes_by down (target_by down target skip) (count - skip) ≡ drop skip (deletes_by down target count)
deletes_after down target count skip h =
    let split : count ≡ skip + (count - skip) = omega (arith, h) in
    sym (after_front (deletes_by down target skip) (deletes_by down target count) (deletes_by down (target_by down target skip) (count - skip)) skip
    (length-deletes down target skip)
    (ap (deletes_by down target) split ∙ deletes-append down target skip (count - skip)))

pub other_after : (others : List Op) (k skip : ℕ) (op : Op) → k < length others → skip < 1 → op ≡ get_or others k op → op ∷ [] ≡ drop skip (other_ops (slice_get others k))
other_after others k skip op h g e =
    let first : skip ≡ 0 = omega (arith, g) in
    let there : slice_get others k ≡ Some op = slice_get-get_or others k op h ∙ ap Some (sym e) in
    (λ i. drop (sym first i) (other_ops (sym there i)))

-- The first part of a slice, and the slice after it
module _ (letters : List ℕ) (others : List Op) (parts : List Part) (skip : ℕ) (plain : List Op) (count : ℕ) (a : AreSliced letters others parts skip plain count) (first : Part)
    (rest : List Part) (is : parts ≡ first ∷ rest) where
  abbrev P : Part → Type 0
  P = IsSoundPart (length letters) (length others)

  sound : All P (first ∷ rest)
  sound = subst (All P) is a.sound

  here : P first
  here = All-head P first rest sound

  len : length (part_ops letters others first) ≡ part_len first
  len = part_has letters others first here

  pub skip_inside : skip < part_len first
  skip_inside = subst (λ (ps : List Part). IsInFirst skip ps) is a.in_first

  pub first_sound : IsSoundPart (length letters) (length others) first
  first_sound = here

  abbrev front : List Op
  front = drop skip (part_ops letters others first)

  front_len : length front ≡ part_len first - skip
  front_len = length-drop skip (part_ops letters others first) ∙ ap (λ n. n - skip) len

  pub parted : drop skip (ops_of letters others parts) ++ plain ≡ drop skip (part_ops letters others first) ++ (drop 0 (ops_of letters others rest) ++ plain)
  parted =
      ap (λ ps. drop skip (ops_of letters others ps) ++ plain) is
      ∙ ap (λ z. z ++ plain) (drop-append-le skip (part_ops letters others first) (ops_of letters others rest) (omega (arith, skip_inside, len)))
      ∙ append_assoc front (ops_of letters others rest) plain

  counts : count ≡ (part_len first - skip) + length (drop 0 (ops_of letters others rest) ++ plain)
  counts = omega (arith, a.counted, ap length parted, length-append front (drop 0 (ops_of letters others rest) ++ plain), front_len)

  pub first_short : part_len first - skip ≤ count
  first_short = omega (arith, counts)

  pub first_some : 0 < length (drop skip (part_ops letters others first))
  first_some = omega (arith, front_len, skip_inside)

  pub sliced_rest : AreSliced letters others rest 0 plain (count - (part_len first - skip))
  sliced_rest = record { sound = All-tail P first rest sound; in_first = begun rest (All-tail P first rest sound); counted = omega (arith, counts) }
    where
      begun : (ps : List Part) → All P ps → IsInFirst 0 ps
      begun [] s = refl
      begun (p ∷ ps) s = has_some (length letters) (length others) p (All-head P p ps s)

  abbrev here_ops : List Op
  here_ops = part_ops letters others first

  one_more : skip + 1 ≡ suc skip
  one_more = omega arith

  -- what stands after the first operation of the slice
  after_op : drop (skip + 1) (ops_of letters others parts) ++ plain ≡ drop (skip + 1) here_ops ++ (drop 0 (ops_of letters others rest) ++ plain)
  after_op =
      ap (λ ps. drop (skip + 1) (ops_of letters others ps) ++ plain) is
      ∙ ap (λ z. z ++ plain) (drop-append-le (skip + 1) here_ops (ops_of letters others rest) (omega (arith, skip_inside, len)))
      ∙ append_assoc (drop (skip + 1) here_ops) (ops_of letters others rest) plain

  module _ (op : Op) (op_is : Some op ≡ slice_get (part_ops letters others first) skip) where
    first_of : drop skip here_ops ≡ op ∷ drop (skip + 1) here_ops
    first_of =
        drop-cons here_ops skip op (omega (arith, skip_inside, len))
        ∙ (λ i. get_or_from_slice_get here_ops skip op op (sym op_is) i ∷ drop (sym one_more i) here_ops)

    pub op_first : drop skip (ops_of letters others parts) ++ plain ≡ op ∷ (drop (skip + 1) (ops_of letters others parts) ++ plain)
    op_first = parted ∙ ap (λ z. z ++ (drop 0 (ops_of letters others rest) ++ plain)) first_of ∙ ap (λ z. op ∷ z) (sym after_op)

    pub sliced_on : skip + 1 < part_len first → AreSliced letters others parts (skip + 1) plain (count - 1)
    sliced_on h = record {
      sound = a.sound;
      in_first = subst (λ (ps : List Part). IsInFirst (skip + 1) ps) (sym is) h;
      counted = omega (arith, a.counted, ap length op_first);
    }

    pub op_alone : part_len first - skip ≡ 1 → drop skip (ops_of letters others parts) ++ plain ≡ op ∷ (drop 0 (ops_of letters others rest) ++ plain)
    op_alone e =
        op_first ∙ ap (λ z. op ∷ z) (after_op ∙ ap (λ z. z ++ (drop 0 (ops_of letters others rest) ++ plain)) (drop_all (skip + 1) here_ops (omega (arith, e, len))))

-- The operations from a position on
module _ (letters : List ℕ) (others : List Op) (ps : List Part) (position k offset : ℕ) (s : IsPartSpot ps position k offset)
    (all : All (IsSoundPart (length letters) (length others)) ps) where
  abbrev Q : Part → Type 0
  Q = IsSoundPart (length letters) (length others)

  split : All Q (s.before ++ s.part ∷ s.after)
  split = subst (All Q) s.whole all

  before_len : length (ops_of letters others s.before) ≡ all_len s.before
  before_len = ops_len letters others s.before (all_before Q s.before (s.part ∷ s.after) split)

  parts_from : take (length ps - k) (drop k ps) ≡ s.part ∷ s.after
  parts_from =
      take_all (length ps - k) (drop k ps) (omega (arith, length-drop k ps))
      ∙ after_front s.before ps (s.part ∷ s.after) k (sym s.index) s.whole

  pub sound_from : All Q (take (length ps - k) (drop k ps))
  sound_from = subst (All Q) (sym parts_from) (all_after Q s.before (s.part ∷ s.after) split)

  pub in_first_from : IsInFirst offset (take (length ps - k) (drop k ps))
  in_first_from = subst (IsInFirst offset) (sym parts_from) s.inside

  pub ops_from : drop offset (ops_of letters others (take (length ps - k) (drop k ps))) ≡ drop position (ops_of letters others ps)
  ops_from =
      let at : position ≡ length (ops_of letters others s.before) + offset = omega (arith, s.behind, before_len) in
      ap (λ z. drop offset (ops_of letters others z)) parts_from
      ∙ sym ((λ i. drop (at i) (spot_parts letters others ps position k offset s i))
      ∙ drop-append-add (ops_of letters others s.before) (part_ops letters others s.part ++ ops_of letters others s.after) offset)

  pub position_inside : position ≤ length (ops_of letters others ps)
  position_inside =
      let here : Q s.part = All-head Q s.part s.after (all_after Q s.before (s.part ∷ s.after) split) in
      omega (
        arith,
        s.behind,
        s.inside,
        before_len,
        part_has letters others s.part here,
        ap length (spot_parts letters others ps position k offset s),
        length-append (ops_of letters others s.before) (part_ops letters others s.part ++ ops_of letters others s.after),
        length-append (part_ops letters others s.part) (ops_of letters others s.after),
      )

-- The counters of what is left of a part

pub run_counters : (start : RunStart) (at count skip : ℕ) (letters : List ℕ) → start.id.counter + count ≤ 2 ^ 32 → skip < count
    → (start_after start skip).id.counter + length (take (at + count - (at + skip)) (drop (at + skip) letters)) ≤ 2 ^ 32
run_counters start at count skip letters fits less = omega (arith, fits, less, length-take (at + count - (at + skip)) (drop (at + skip) letters))

pub deletes_counters : (down : Bool) (target : Identifier) (count skip : ℕ) → CountersFit down target count → skip < count
    → CountersFit down (target_by down target skip) (count - skip)
deletes_counters true target count skip fits less = omega (arith, fits, less)
deletes_counters false target count skip fits less = omega (arith, fits, less)
