-- How far a run is the same as what stands in a list.
use Rattle.std.proofs.Common.{◌≡◌, ◌≢◌, ℕ, zero, suc, ◌+◌, ◌-◌, ◌<◌, ◌≤◌, true, false, nat_eq, List, [], ◌∷◌, ◌++◌, length, take, drop, get_or, refl, ap, sym, subst, ◌∙◌, arith}
use Rattle.std.proofs.Common.{inl, inr, length-drop}
use Rattle.std.specs.Prelude.{Option, Some, None, All, slice_get, if◌then◌else◌}
use Rattle.std.proofs.lemmas.Bool.{cases_Bool, eq-eqb, eqb-true, false_from_ne_true, ne_eqb}
use Rattle.std.proofs.lemmas.List.{drop-append-le, get_or_default, length-take-le}
use Rattle.std.proofs.lemmas.List.Elements.{All-get_or, All-head, All-tail}
use Rattle.std.proofs.lemmas.Option.{slice_get-get_or}
use Rattle.std.proofs.Math.Seq.{drop-append-add}
use Rattle.fugue_ids.specs.Identifiers.{Identifier}
use Rattle.fugue_ids.specs.Ops.{op_eq}
use Rattle.fugue_ids.specs.Runs.{id_after, in_a_row, left_after, next_id, run_from, start_after, text_by, text_in}
use Rattle.fugue_ids.specs.declared.op.Op.{Op}
use Rattle.fugue_ids.specs.declared.op.Op.TheVariants.{Delete, Text}
use Rattle.fugue_ids.specs.declared.run.RunStart.{RunStart}
use Rattle.fugue_ids.proofs.ListLemmas.{all_before, all_after, slice_get-append}
use Rattle.fugue_ids.proofs.OpLemmas.{op_eq-refl, op_eq-true}
use Rattle.fugue_ids.proofs.RunLemmas.{left_one, none_after, one_after}
use Rattle.op_runs.specs.Finding.{IsPartSpot}
use Rattle.op_runs.specs.Parts.{AreApart, ContinuesPart, IsOther, IsSoundPart, StandsApart, ops_of, other_ops, part_len, part_ops}
use Rattle.op_runs.specs.CommonPrefix.{common_prefix, common_letters}
use Rattle.op_runs.specs.declared.part.Part.{Part}
use Rattle.op_runs.specs.declared.part.Part.TheVariants.{Deleted, Other, Typed}
use Rattle.op_runs.specs.declared.part.TypedPart.{TypedPart}
use Rattle.op_runs.proofs.FindLemmas.{delete_at, letter_at, ops_len, spot_parts}
use Rattle.op_runs.proofs.PartLemmas.{has_some, part_has}
use Rattle.op_runs.proofs.SliceLemmas.{typed_after}

-- Scalars

same_c : (c d : ℕ) (a b : List ℕ) → c ≡ d → common_letters (c ∷ a) (d ∷ b) ≡ suc (common_letters a b)
same_c c d a b e = ap (λ z. if z then suc (common_letters a b) else 0) (eq-eqb c d e)

-- the two are the same so far and differ there, or one ends
pub same_is : (k : ℕ) (a b : List ℕ) (d : ℕ) → k ≤ length a → k ≤ length b → take k a ≡ take k b → (k < length a → k < length b → get_or a k d ≢ get_or b k d)
    → common_letters a b ≡ k
same_is zero [] b d la lb e n = refl
same_is zero (x ∷ a) [] d la lb e n = refl
same_is zero (x ∷ a) (y ∷ b) d la lb e n = ap (λ z. if z then suc (common_letters a b) else 0) (ne_eqb x y (n (omega arith) (omega arith)))
same_is (suc k) [] b d la lb e n = absurd (omega (arith, la))
same_is (suc k) (x ∷ a) [] d la lb e n = absurd (omega (arith, lb))
same_is (suc k) (x ∷ a) (y ∷ b) d la lb e n =
    let first : x ≡ y = cc e in
    let rest : take k a ≡ take k b = cc e in
    same_c x y a b first ∙ ap suc (same_is k a b d (omega (arith, la)) (omega (arith, lb)) rest (λ p q. n (omega (arith, p)) (omega (arith, q))))

-- Texts

same_text : (id s : Identifier) (l r : Option Identifier) (c d : ℕ) → op_eq (Text id s l r c) (Text id s l r d) ≡ nat_eq c d
same_text id s l r c d = elim (cases_Bool (nat_eq c d)) [
  | inl e ↦ (let same : c ≡ d = eqb-true c d e in ap (λ z. op_eq (Text id s l r c) (Text id s l r z)) (sym same) ∙ op_eq-refl (Text id s l r c) ∙ sym e)
  | inr n ↦ false_from_ne_true _ (λ t. let same : c ≡ d = cc (op_eq-true (Text id s l r c) (Text id s l r d) t) in true_not_false (sym (eq-eqb c d same) ∙ n)) ∙ sym n
]
  where
    true_not_false : true ≡ false → ⊥
    true_not_false e = cc e

-- Texts of one start, before what does not go on with the first ones
row_front : (id s : Identifier) (l r : Option Identifier) (a b : List ℕ) (rest : List Op)
    → ((more : List ℕ) → common_prefix rest (in_a_row (id_after id (length a)) s (left_after l id (length a)) r more) ≡ 0)
    → common_prefix (in_a_row id s l r a ++ rest) (in_a_row id s l r b) ≡ common_letters a b
row_front id s l r [] b rest n = ap (λ z. common_prefix rest (in_a_row z s l r b)) (sym (none_after id)) ∙ n b
row_front id s l r (c ∷ a) [] rest n = refl
row_front id s l r (c ∷ a) (d ∷ b) rest n =
    let later = row_front (next_id id) s (Some id) r a b rest
    (λ more. (λ i. common_prefix rest (in_a_row (one_after id (length a) i) s (left_one id (length a) i) r more)) ∙ n more) in
    (λ i. if same_text id s l r c d i then suc (later i) else 0)

pub run_front : (start : RunStart) (a b : List ℕ) (rest : List Op) → ((more : List ℕ) → common_prefix rest (run_from (start_after start (length a)) more) ≡ 0)
    → common_prefix (run_from start a ++ rest) (run_from start b) ≡ common_letters a b
run_front start a b rest n = row_front start.id start.section start.left start.right a b rest n

-- where the first operation is no Text of the run
pub zero_by_first : (xs : List Op) (s : RunStart) (more : List ℕ) → ((ch : ℕ) → slice_get xs 0 ≡ Some (text_by s ch) → ⊥) → common_prefix xs (run_from s more) ≡ 0
zero_by_first [] s more n = refl
zero_by_first (op ∷ ops) s [] n = refl
zero_by_first (op ∷ ops) s (ch ∷ more) n =
    ap (λ z. if z then suc (common_prefix ops (in_a_row (next_id s.id) s.section (Some s.id) s.right more)) else 0)
    (false_from_ne_true (op_eq op (text_by s ch)) (λ t. n ch (ap Some (op_eq-true op (text_by s ch) t))))

pub same_start : (s q : RunStart) (c d : ℕ) → Some (text_by s c) ≡ Some (text_by q d) → s ≡ q
same_start s q c d e =
    let id : s.id ≡ q.id = cc e in
    let section : s.section ≡ q.section = cc e in
    let left : s.left ≡ q.left = cc e in
    let right : s.right ≡ q.right = cc e in
    λ i. record { id = id i; section = section i; left = left i; right = right i }

-- an operation of a part is a Text that says so only where the part is a run in which one does
pub part_never : (letters : List ℕ) (others : List Op) (p : Part) (offset : ℕ) (s : RunStart) → IsSoundPart (length letters) (length others) p → offset < part_len p
    → All IsOther others
    → ((r : TypedPart) → p ≡ Typed r → s ≡ start_after r.start offset → ⊥) → (ch : ℕ) → slice_get (part_ops letters others p) offset ≡ Some (text_by s ch) → ⊥
part_never letters others (Typed r) offset s sound inside other n ch e =
    let c : ℕ = get_or letters (r.at + offset) 0 in
    n r refl (same_start s (start_after r.start offset) ch c
    (sym e ∙ sym (letter_at letters r offset c sound.1 inside (get_or_default letters (r.at + offset) 0 c (omega (arith, sound.1, inside))))))
part_never letters others (Deleted d) offset s sound inside other n ch e = never (delete_at d.down d.target d.count offset inside ∙ e)
  where
    never : {t : Identifier} → Some (Delete t) ≡ Some (text_by s ch) → ⊥
    never z = cc z
part_never letters others (Other k) offset s sound inside other n ch e =
    let op : Op = get_or others k (text_by s ch) in
    let is : op ≡ text_by s ch = some_same (sym (slice_get-get_or others k (text_by s ch) sound.1) ∙ first (slice_get others k) offset inside e) in
    let none : text_in op ≡ None = (All-get_or IsOther others k (text_by s ch) sound.1 other).0 in
    never (sym (ap text_in is) ∙ none)
  where
    some_same : {a b : Op} → Some a ≡ Some b → a ≡ b
    some_same z = cc z

    first : (o : Option Op) (j : ℕ) → j < 1 → slice_get (other_ops o) j ≡ Some (text_by s ch) → o ≡ Some (text_by s ch)
    first None j h z = absurd (none_first j z)
      where
        none_first : (j : ℕ) → slice_get [] j ≡ Some (text_by s ch) → ⊥
        none_first zero z = cc z
        none_first (suc j) z = cc z
    first (Some op) zero h z = z
    first (Some op) (suc j) h z = absurd (omega (arith, h))

    never : {x : RunStart × ℕ} → Some x ≡ None → ⊥
    never z = cc z

-- what stands after a part does not go on with it
pub next_zero : (letters : List ℕ) (others : List Op) (r : TypedPart) (qs : List Part) (more : List ℕ) → All (IsSoundPart (length letters) (length others)) qs → All IsOther others
    → StandsApart (Typed r) qs
    → common_prefix (ops_of letters others qs) (run_from (start_after r.start r.count) more) ≡ 0
next_zero letters others r [] more sound other apart = refl
next_zero letters others r (q ∷ qs) more sound other apart =
    let P = IsSoundPart (length letters) (length others) in
    let here = All-head P q qs sound in
    let some : 0 < part_len q = has_some (length letters) (length others) q here in
    zero_by_first (ops_of letters others (q ∷ qs)) (start_after r.start r.count) more
    (λ ch e. part_never letters others q 0 (start_after r.start r.count) here some other
    (λ t is begins. apart (subst (ContinuesPart (Typed r)) (sym is) (begun t begins))) ch
    (sym (slice_get-append (part_ops letters others q) (ops_of letters others qs) 0 (omega (arith, some, part_has letters others q here))) ∙ e))
  where
    begun : (t : TypedPart) → start_after r.start r.count ≡ start_after t.start 0 → t.start ≡ start_after r.start r.count
    begun t e = sym (e ∙ (λ i. record { id = none_after t.start.id i; section = t.start.section; left = t.start.left; right = t.start.right }))

-- At a spot

apart_after : (before : List Part) (p : Part) (after : List Part) → AreApart (before ++ p ∷ after) → StandsApart p after
apart_after [] p after a = a.0
apart_after (q ∷ before) p after a = apart_after before p after a.1

start_further : (s : RunStart) (j k n : ℕ) → 0 < k → j + k ≡ n → start_after (start_after s j) k ≡ start_after s n
start_further s j zero n some e = absurd (omega (arith, some))
start_further s j (suc k) n some e =
    let same : s.id.counter + j + suc k ≡ s.id.counter + (j + suc k) = omega arith in
    let before : s.id.counter + j + k ≡ s.id.counter + (j + k) = omega arith in
    let step : suc (j + k) ≡ n = omega (arith, e) in
    (λ i. record {
      id = record { replica = s.id.replica; counter = same i };
      section = s.section;
      left = Some (record { replica = s.id.replica; counter = before i });
      right = s.right;
    })
    ∙ (λ i. record { id = id_after s.id (e i); section = s.section; left = left_after s.left s.id (suc (j + k)); right = s.right })
    ∙ (λ i. record { id = id_after s.id n; section = s.section; left = left_after s.left s.id (step i); right = s.right })

module _ (letters : List ℕ) (others : List Op) (ps : List Part) (position k offset : ℕ) (s : IsPartSpot ps position k offset)
    (all : All (IsSoundPart (length letters) (length others)) ps) (apart : AreApart ps) (other : All IsOther others)
    (start : RunStart) (text : List ℕ) where
  abbrev Q : Part → Type 0
  Q = IsSoundPart (length letters) (length others)

  split : All Q (s.before ++ s.part ∷ s.after)
  split = subst (All Q) s.whole all

  here : Q s.part
  here = All-head Q s.part s.after (all_after Q s.before (s.part ∷ s.after) split)

  behind : All Q s.after
  behind = All-tail Q s.part s.after (all_after Q s.before (s.part ∷ s.after) split)

  -- the operations from the position on
  from_spot : drop position (ops_of letters others ps) ≡ drop offset (part_ops letters others s.part) ++ ops_of letters others s.after
  from_spot =
      let at : position ≡ length (ops_of letters others s.before) + offset =
      omega (arith, s.behind, ops_len letters others s.before (all_before Q s.before (s.part ∷ s.after) split)) in
      (λ i. drop (at i) (spot_parts letters others ps position k offset s i))
      ∙ drop-append-add (ops_of letters others s.before) (part_ops letters others s.part ++ ops_of letters others s.after) offset
      ∙ drop-append-le offset (part_ops letters others s.part) (ops_of letters others s.after) (omega (arith, s.inside, part_has letters others s.part here))

  -- another operation stands there
  pub no_repeats : ((r : TypedPart) → s.part ≡ Typed r → start ≡ start_after r.start offset → ⊥) → common_prefix (drop position (ops_of letters others ps)) (run_from start text) ≡ 0
  no_repeats n =
      zero_by_first (drop position (ops_of letters others ps)) start text (λ ch e. part_never letters others s.part offset start here s.inside other n ch
      (sym (first_of_drop (part_ops letters others s.part) offset) ∙ sym (slice_get-append (drop offset (part_ops letters others s.part)) (ops_of letters others s.after) 0
      (omega (arith, s.inside, length-drop offset (part_ops letters others s.part), part_has letters others s.part here))) ∙ ap (λ z. slice_get z 0) (sym from_spot) ∙ e))
    where
      first_of_drop : (xs : List Op) (j : ℕ) → slice_get (drop j xs) 0 ≡ slice_get xs j
      first_of_drop xs zero = refl
      first_of_drop [] (suc j) = refl
      first_of_drop (x ∷ xs) (suc j) = first_of_drop xs j

  -- Texts that begin so stand there
  pub repeats_run : (r : TypedPart) → s.part ≡ Typed r → start ≡ start_after r.start offset
      → common_prefix (drop position (ops_of letters others ps)) (run_from start text) ≡ common_letters (take (r.at + r.count - (r.at + offset)) (drop (r.at + offset) letters)) text
  repeats_run r is e =
      let sound : Q (Typed r) = subst Q is here in
      let inside : offset < r.count = subst (λ (p : Part). offset < part_len p) is s.inside in
      let left : List ℕ = take (r.at + r.count - (r.at + offset)) (drop (r.at + offset) letters) in
      let len : length left ≡ r.count - offset =
      length-take-le (r.at + r.count - (r.at + offset)) (drop (r.at + offset) letters) (omega (arith, length-drop (r.at + offset) letters, sound.1)) ∙ omega arith in
      let there : drop offset (part_ops letters others s.part) ≡ run_from start left =
      ap (λ (p : Part). drop offset (part_ops letters others p)) is ∙ sym (typed_after letters r offset sound.1 inside) ∙ ap (λ z. run_from z left) (sym e) in
      let apart_here : StandsApart (Typed r) s.after = subst (λ (p : Part). StandsApart p s.after) is (apart_after s.before s.part s.after (subst AreApart s.whole apart)) in
      let end : start_after start (length left) ≡ start_after r.start r.count =
      (λ i. start_after (e i) (len i)) ∙ start_further r.start offset (r.count - offset) r.count (omega (arith, inside)) (omega (arith, inside)) in
      ap (λ z. common_prefix z (run_from start text)) (from_spot ∙ ap (λ z. z ++ ops_of letters others s.after) there)
      ∙ run_front start left text (ops_of letters others s.after)
      (λ more. ap (λ z. common_prefix (ops_of letters others s.after) (run_from z more)) end ∙ next_zero letters others r s.after more behind other apart_here)
