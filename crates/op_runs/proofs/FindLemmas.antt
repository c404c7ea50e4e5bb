-- The operation at a position: the part that has it, and which of its operations it is.
use Rattle.std.proofs.Common.{◌≡◌, ℕ, zero, suc, ◌+◌, ◌-◌, ◌<◌, ◌≤◌, Bool, true, false, List, [], ◌∷◌, ◌++◌, length, take, drop, get_or, refl, ap, sym, subst, ◌∙◌, arith}
use Rattle.std.proofs.Common.{length-append, length-drop, inl, inr}
use Rattle.std.specs.Prelude.{None, Option, Some, All, slice_get, option_map}
use Rattle.std.proofs.lemmas.Bool.{cases_lt}
use Rattle.std.proofs.lemmas.Grind.{flat_map-append}
use Rattle.std.proofs.lemmas.List.{get_or-drop, get_or-take, length-take-le}
use Rattle.std.proofs.lemmas.Option.{slice_get-get_or}
use Rattle.std.proofs.lemmas.List.Elements.{All-cons, All-head, All-nil, All-tail}
use Rattle.fugue_ids.specs.Identifiers.{Identifier}
use Rattle.fugue_ids.specs.Ops.{target_of}
use Rattle.fugue_ids.specs.Runs.{in_a_row, next_id, run_from, start_after, text_by, text_in}
use Rattle.fugue_ids.specs.declared.op.Op.{Op}
use Rattle.fugue_ids.specs.declared.op.Op.TheVariants.{Delete, Text}
use Rattle.fugue_ids.specs.declared.run.RunStart.{RunStart}
use Rattle.fugue_ids.proofs.ListLemmas.{all_before, all_after, slice_get-append, slice_get-behind}
use Rattle.fugue_ids.proofs.RunLemmas.{left_one, none_after, one_after}
use Rattle.op_runs.specs.Deletions.{deletes_by, id_before, target_by}
use Rattle.op_runs.specs.Finding.{IsFloorPart, IsPartSpot, all_len}
use Rattle.op_runs.specs.Growing.{IsLastPart}
use Rattle.op_runs.specs.Parts.{IsOther, IsSoundPart, firsts_of, ops_of, other_ops, part_len, part_ops}
use Rattle.op_runs.specs.declared.part.Part.{Part}
use Rattle.op_runs.specs.declared.part.Part.TheVariants.{Deleted, Other, Typed}
use Rattle.op_runs.specs.declared.part.TypedPart.{TypedPart}
use Rattle.op_runs.proofs.DeletionLemmas.{none_before, one_before}
use Rattle.op_runs.proofs.PartLemmas.{has_some, one_more, part_has}

-- Where parts begin

begins : (n : ℕ) (ps : List Part) (k : ℕ) → k < length (firsts_of n ps) → n ≤ get_or (firsts_of n ps) k 0
begins n [] k h = absurd (omega (arith, h))
begins n (p ∷ ps) zero h = omega arith
begins n (p ∷ ps) (suc k) h = let r = begins (n + part_len p) ps k (omega (arith, h)) in omega (arith, r)

rises : (n : ℕ) (ps : List Part) → All (λ p. 0 < part_len p) ps → (i j : ℕ) → i < j → j < length (firsts_of n ps) → get_or (firsts_of n ps) i 0 < get_or (firsts_of n ps) j 0
rises n [] s i j h k = absurd (omega (arith, k))
rises n (p ∷ ps) s i zero h k = absurd (omega (arith, h))
rises n (p ∷ ps) s zero (suc j) h k =
    let some : 0 < part_len p = All-head (λ q. 0 < part_len q) p ps s in
    let r = begins (n + part_len p) ps j (omega (arith, k)) in
    omega (arith, r, some)
rises n (p ∷ ps) s (suc i) (suc j) h k = rises (n + part_len p) ps (All-tail (λ q. 0 < part_len q) p ps s) i j (omega (arith, h)) (omega (arith, k))

pub firsts_rise : (firsts : List ℕ) (ps : List Part) → firsts ≡ firsts_of 0 ps → All (λ p. 0 < part_len p) ps → (i j : ℕ) → i < j → j < length firsts
    → get_or firsts i 0 < get_or firsts j 0
firsts_rise firsts ps e s = subst (λ (xs : List ℕ). (i j : ℕ) → i < j → j < length xs → get_or xs i 0 < get_or xs j 0) (sym e) (rises 0 ps s)

-- strictly rising numbers rise
pub level : (xs : List ℕ) → ((i j : ℕ) → i < j → j < length xs → get_or xs i 0 < get_or xs j 0) → (i j : ℕ) → i ≤ j → j < length xs → get_or xs i 0 ≤ get_or xs j 0
level xs strict i j h g = elim (cases_lt i j) [
  | inl lt ↦ (let r = strict i j lt g in omega (arith, r))
  | inr ge ↦ (let e : i ≡ j = omega (arith, h, ge) in let f = ap (λ k. get_or xs k 0) e in omega (arith, f))
]

firsts_len : (n : ℕ) (ps : List Part) → length (firsts_of n ps) ≡ length ps
firsts_len n [] = refl
firsts_len n (p ∷ ps) = ap suc (firsts_len (n + part_len p) ps)

-- the last part that begins no later than a position has it
spot_in : (n : ℕ) (ps : List Part) (k position : ℕ) → k < length (firsts_of n ps) → get_or (firsts_of n ps) k 0 ≤ position
    → ((j : ℕ) → k < j → j < length (firsts_of n ps) → position < get_or (firsts_of n ps) j 0)
    → position < n + all_len ps → IsPartSpot ps (position - n) k (position - get_or (firsts_of n ps) k 0)
spot_in n [] k position i h b l = absurd (omega (arith, i))
spot_in n (q ∷ []) zero position i h b l = record { before = []; part = q; after = []; whole = refl; index = refl; behind = omega arith; inside = omega (arith, l, h) }
spot_in n (q ∷ r ∷ rs) zero position i h b l =
    let next : position < n + part_len q = b 1 (omega arith) (omega arith) in
    record { before = []; part = q; after = r ∷ rs; whole = refl; index = refl; behind = omega arith; inside = omega (arith, next, h) }
spot_in n (q ∷ qs) (suc k) position i h b l =
    let s = spot_in (n + part_len q) qs k position (omega (arith, i)) h (λ j g z. b (suc j) (omega (arith, g)) (omega (arith, z))) (omega (arith, l)) in
    let from = begins (n + part_len q) qs k (omega (arith, i)) in
    record {
      before = q ∷ s.before;
      part = s.part;
      after = s.after;
      whole = ap (λ z. q ∷ z) s.whole;
      index = ap suc s.index;
      behind = omega (arith, s.behind, from, h);
      inside = s.inside;
    }

pub spot_floor : (ps : List Part) (firsts : List ℕ) (k position : ℕ) → firsts ≡ firsts_of 0 ps → IsFloorPart firsts position k → position < all_len ps
    → IsPartSpot ps position k (position - get_or firsts k 0)
spot_floor ps firsts k position e f l =
    let g : IsFloorPart (firsts_of 0 ps) position k = subst (λ (xs : List ℕ). IsFloorPart xs position k) e f in
    let all : position - 0 ≡ position = omega arith in
    subst (λ (n : ℕ). IsPartSpot ps n k (position - get_or firsts k 0)) all
    (subst (λ (xs : List ℕ). IsPartSpot ps (position - 0) k (position - get_or xs k 0)) (sym e) (spot_in 0 ps k position g.inside g.up_to g.behind (omega (arith, l))))

pub floor_inside : (ps : List Part) (firsts : List ℕ) (k position : ℕ) → firsts ≡ firsts_of 0 ps → IsFloorPart firsts position k → k < length ps
floor_inside ps firsts k position e f = omega (arith, f.inside, ap length e, firsts_len 0 ps)

-- a position inside is after the first of some part
pub none_floor : (ps : List Part) (firsts : List ℕ) (position : ℕ) → firsts ≡ firsts_of 0 ps → ((j : ℕ) → j < length firsts → position < get_or firsts j 0) → all_len ps ≤ position
none_floor [] firsts position e h = omega arith
none_floor (p ∷ ps) firsts position e h =
    let some : 0 < length firsts = omega (arith, ap length e) in
    absurd (omega (arith, h 0 some, ap (λ (xs : List ℕ). get_or xs 0 0) e))

-- What stands there

pub all_some : (l o : ℕ) (ps : List Part) → All (IsSoundPart l o) ps → All (λ p. 0 < part_len p) ps
all_some l o [] s = All-nil (λ p. 0 < part_len p)
all_some l o (p ∷ ps) s = All-cons (λ q. 0 < part_len q) p ps (has_some l o p (All-head (IsSoundPart l o) p ps s)) (all_some l o ps (All-tail (IsSoundPart l o) p ps s))

pub ops_len : (letters : List ℕ) (others : List Op) (ps : List Part) → All (IsSoundPart (length letters) (length others)) ps → length (ops_of letters others ps) ≡ all_len ps
ops_len letters others [] s = refl
ops_len letters others (p ∷ ps) s =
    let P = IsSoundPart (length letters) (length others) in
    let r = ops_len letters others ps (All-tail P p ps s) in
    omega (arith, length-append (part_ops letters others p) (ops_of letters others ps), part_has letters others p (All-head P p ps s), r)

-- the operations before a spot, and those from its part on
pub spot_parts : (letters : List ℕ) (others : List Op) (ps : List Part) (position k offset : ℕ) (s : IsPartSpot ps position k offset)
    → ops_of letters others ps ≡ ops_of letters others s.before ++ (part_ops letters others s.part ++ ops_of letters others s.after)
spot_parts letters others ps position k offset s = ap (ops_of letters others) s.whole ∙ flat_map-append (part_ops letters others) s.before (s.part ∷ s.after)

pub spot_get : (letters : List ℕ) (others : List Op) (ps : List Part) (position k offset : ℕ) (s : IsPartSpot ps position k offset)
    → All (IsSoundPart (length letters) (length others)) ps
    → slice_get (ops_of letters others ps) position ≡ slice_get (part_ops letters others s.part) offset
spot_get letters others ps position k offset s sound =
    let P = IsSoundPart (length letters) (length others) in
    let all = subst (All P) s.whole sound in
    let len : length (ops_of letters others s.before) ≡ all_len s.before = ops_len letters others s.before (all_before P s.before (s.part ∷ s.after) all) in
    let here = All-head P s.part s.after (all_after P s.before (s.part ∷ s.after) all) in
    let at : position ≡ length (ops_of letters others s.before) + offset = omega (arith, s.behind, len) in
    (λ i. slice_get (spot_parts letters others ps position k offset s i) (at i))
    ∙ slice_get-behind (ops_of letters others s.before) (part_ops letters others s.part ++ ops_of letters others s.after) offset
    ∙ slice_get-append (part_ops letters others s.part) (ops_of letters others s.after) offset (omega (arith, s.inside, part_has letters others s.part here))

-- the part that a read gave
pub part_read : (ps : List Part) (position k offset : ℕ) (s : IsPartSpot ps position k offset) (p : Part) → p ≡ get_or ps k p → s.part ≡ p
part_read ps position k offset s p e = sym (e ∙ (λ i. get_or (s.whole i) (s.index i) p) ∙ get_or-seam s.before s.part s.after p)
  where
    get_or-seam : (xs : List Part) (x : Part) (ys : List Part) (d : Part) → get_or (xs ++ x ∷ ys) (length xs) d ≡ x
    get_or-seam [] x ys d = refl
    get_or-seam (y ∷ xs) x ys d = get_or-seam xs x ys d

pub spot_inside : (ps : List Part) (position k offset : ℕ) → IsPartSpot ps position k offset → k < length ps
spot_inside ps position k offset s = omega (arith, s.index, ap length s.whole, length-append s.before (s.part ∷ s.after))

-- a Text of a run
pub typed_at : (start : RunStart) (text : List ℕ) (j : ℕ) → slice_get (run_from start text) j ≡ option_map (text_by (start_after start j)) (slice_get text j)
typed_at s [] zero = refl
typed_at s [] (suc j) = refl
typed_at s (c ∷ text) zero = λ i. Some (Text (sym (none_after s.id) i) s.section s.left s.right c)
typed_at s (c ∷ text) (suc j) =
    typed_at (record { id = next_id s.id; section = s.section; left = Some s.id; right = s.right }) text j
    ∙ (λ i. option_map (λ ch. Text (one_after s.id j i) s.section (left_one s.id j i) s.right ch) (slice_get text j))

pub letter_at : (letters : List ℕ) (r : TypedPart) (offset ch : ℕ) → r.at + r.count ≤ length letters → offset < r.count → ch ≡ get_or letters (r.at + offset) ch
    → Some (text_by (start_after r.start offset) ch) ≡ slice_get (run_from r.start (take r.count (drop r.at letters))) offset
letter_at letters r offset ch h g e =
    let text : List ℕ = take r.count (drop r.at letters) in
    let len : length text ≡ r.count = length-take-le r.count (drop r.at letters) (omega (arith, h, length-drop r.at letters)) in
    let inside : offset < length text = omega (arith, len, g) in
    let has : slice_get text offset ≡ Some ch =
    slice_get-get_or text offset ch inside ∙ ap Some (get_or-take r.count (drop r.at letters) offset ch g ∙ get_or-drop r.at letters offset ch ∙ sym e) in
    sym (typed_at r.start text offset ∙ ap (option_map (text_by (start_after r.start offset))) has)

-- a Delete of neighbours
pub delete_at : (down : Bool) (t : Identifier) (n j : ℕ) → j < n → Some (Delete (target_by down t j)) ≡ slice_get (deletes_by down t n) j
delete_at true t zero j h = absurd (omega (arith, h))
delete_at true t (suc n) zero h = λ i. Some (Delete (none_before t i))
delete_at true t (suc n) (suc j) h = (λ i. Some (Delete (sym (one_before t j) i))) ∙ delete_at true (id_before t 1) n j (omega (arith, h))
delete_at false t zero j h = absurd (omega (arith, h))
delete_at false t (suc n) zero h = λ i. Some (Delete (none_after t i))
delete_at false t (suc n) (suc j) h = (λ i. Some (Delete (sym (one_after t j) i))) ∙ delete_at false (next_id t) n j (omega (arith, h))

-- one of the others
pub other_at : (others : List Op) (k j : ℕ) (op : Op) → k < length others → j < 1 → op ≡ get_or others k op → Some op ≡ slice_get (other_ops (slice_get others k)) j
other_at others k j op h g e =
    let first : j ≡ 0 = omega (arith, g) in
    let there : slice_get others k ≡ Some op = slice_get-get_or others k op h ∙ ap Some (sym e) in
    (λ i. slice_get (other_ops (sym there i)) (sym first i))

-- the last operation is that of the last part
pub last_read : (letters : List ℕ) (others : List Op) (ps : List Part) (last : Part) → IsLastPart ps last → All (IsSoundPart (length letters) (length others)) ps
    → slice_get (ops_of letters others ps) (length (ops_of letters others ps) - 1) ≡ slice_get (part_ops letters others last) (part_len last - 1)
last_read letters others ps last is sound =
    let P = IsSoundPart (length letters) (length others) in
    let at : P last = All-head P last [] (all_after P is.front (last ∷ []) (subst (All P) is.whole sound)) in
    let front : List Op = ops_of letters others is.front in
    let here : List Op = part_ops letters others last in
    let long : length here ≡ part_len last = part_has letters others last at in
    let some : 0 < part_len last = has_some (length letters) (length others) last at in
    let whole : ops_of letters others ps ≡ front ++ here = ap (ops_of letters others) is.whole ∙ one_more letters others is.front last in
    let n : length (front ++ here) - 1 ≡ length front + (part_len last - 1) = omega (arith, long, some, length-append front here) in
    (λ i. slice_get (whole i) (length (whole i) - 1)) ∙ ap (slice_get (front ++ here)) n ∙ slice_get-behind front here (part_len last - 1)

-- a run has Texts alone, and Deletes are Deletes
no_other_typed : (id s : Identifier) (l r : Option Identifier) (text : List ℕ) (j : ℕ) (op : Op) → Some op ≡ slice_get (in_a_row id s l r text) j → text_in op ≡ None → ⊥
no_other_typed id s l r [] j op e none = cc
no_other_typed id s l r (c ∷ text) zero op e none = let same : op ≡ Text id s l r c = cc in absurd (some_none (sym (ap text_in same) ∙ none))
  where
    some_none : text_in (Text id s l r c) ≡ None → ⊥
    some_none d = cc
no_other_typed id s l r (c ∷ text) (suc j) op e none = no_other_typed (next_id id) s (Some id) r text j op e none

no_other_deleted : (down : Bool) (t : Identifier) (n j : ℕ) (op : Op) → j < n → Some op ≡ slice_get (deletes_by down t n) j → target_of op ≡ None → ⊥
no_other_deleted down t n j op h e none =
    let both : Some op ≡ Some (Delete (target_by down t j)) = e ∙ sym (delete_at down t n j h) in
    let same : op ≡ Delete (target_by down t j) = cc in
    some_none (target_by down t j) (sym (ap target_of same) ∙ none)
  where
    some_none : (x : Identifier) → target_of (Delete x) ≡ None → ⊥
    some_none x d = cc

-- where the last operation is neither a Text nor a Delete, the last part has it
pub last_other : (letters : List ℕ) (others : List Op) (ps : List Part) (last : Part) (op : Op) → IsLastPart ps last → All (IsSoundPart (length letters) (length others)) ps
    → Some op ≡ slice_get (ops_of letters others ps) (length (ops_of letters others ps) - 1) → IsOther op → (k : ℕ) × (last ≡ Other k)
last_other letters others ps last op is sound e other =
    by_part last (has_some (length letters) (length others) last
    (All-head (IsSoundPart (length letters) (length others)) last []
    (all_after (IsSoundPart (length letters) (length others)) is.front (last ∷ []) (subst (All (IsSoundPart (length letters) (length others))) is.whole sound))))
    (e ∙ last_read letters others ps last is sound)
  where
    by_part : (p : Part) → 0 < part_len p → Some op ≡ slice_get (part_ops letters others p) (part_len p - 1) → (k : ℕ) × (p ≡ Other k)
    by_part (Typed r) some e = absurd (no_other_typed r.start.id r.start.section r.start.left r.start.right (take r.count (drop r.at letters)) (r.count - 1) op e other.0)
    by_part (Deleted d) some e = absurd (no_other_deleted d.down d.target d.count (d.count - 1) op (omega (arith, some)) e other.1)
    by_part (Other k) some e = (k, refl)
