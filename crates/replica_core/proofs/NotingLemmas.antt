-- The positions of a run that joins a history.
use Rattle.std.proofs.Common.{[], ap, append-nil, arith, drop, false, get_or, inl, inr, length, length-append, List, refl, subst, suc, sym, take, true, zero, ℕ, ◌++◌, ◌+◌, ◌-◌}
use Rattle.std.proofs.Common.{◌<◌, ◌||◌, ◌∙◌, ◌∷◌, ◌≡◌, ◌≤◌}
use Rattle.std.specs.Prelude.{All, if◌then◌else◌, None, Option, option_and_then, reverse, slice_get, Some}
use Rattle.std.proofs.lemmas.List.Elements.{All-cons, All-nil, All-weaker}
use Rattle.std.proofs.lemmas.List.{reverse-append}
use Rattle.std.proofs.lemmas.Bool.{cases_Bool, or_cases, or_left, or_right}
use Rattle.fugue_ids.specs.Ops.{id_of, op_eq}
use Rattle.std.proofs.Math.Seq.{take-append_seam}
use Rattle.std.specs.FinMap.{FinMap, get}
use Rattle.std.proofs.lemmas.Bool.{false_from_ne_true, true≢false}
use Rattle.std.proofs.lemmas.List.{reverse-reverse}
use Rattle.fugue_ids.specs.Identifiers.{Identifier, id_cmp}
use Rattle.fugue_ids.specs.Runs.{id_after, in_a_row, left_after, next_id, run_from, start_after, text_by}
use Rattle.fugue_ids.specs.declared.op.Op.{Op}
use Rattle.fugue_ids.specs.declared.op.Op.TheVariants.{Delete, Text}
use Rattle.fugue_ids.specs.declared.run.RunStart.{RunStart}
use Rattle.fugue_ids.proofs.RunLemmas.{none_after, one_after, typed-append}
use Rattle.origin_model.specs.edits.Edits.{ReadyInTurn, history_with}
use Rattle.origin_model.specs.operations.History.{has_op, holds}
use Rattle.origin_model.proofs.SharedLemmas.{has-append, holds-older, ready_is_new}
use Rattle.origin_model.proofs.edits.MadeLemmas.{extended-append, join_at_end}
use Rattle.stretch_map.specs.Rules.{AreFree}
use Rattle.stretch_map.specs.declared.follows.Position.{Position}
use Rattle.op_runs.specs.Deletions.{deletes_up}
use Rattle.op_runs.specs.CommonPrefix.{common_prefix}
use Rattle.replica_core.specs.Due.{newest_id}
use Rattle.replica_core.specs.Index.{ArePositions, sections_and_notes, with_positions}
use Rattle.replica_core.proofs.FeedingLemmas.{length-front, length-run}
use Rattle.replica_core.proofs.IndexLemmas.{noted_none, noted_own, unheld_free}
use Rattle.replica_core.proofs.RunLemmas.{length-extended}

-- the identifiers of a run that is Ready in its turn are not held
run_unheld : (id s : Identifier) (l r : Option Identifier) (text : List ℕ) (h : List Op) (k : ℕ) → ReadyInTurn h (in_a_row id s l r text) → k < length text
    → holds h (id_after id k) ≡ false
run_unheld id s l r [] h k ready less = absurd (omega (arith, less))
run_unheld id s l r (c ∷ text) h zero ready less = ap (holds h) (none_after id) ∙ ready_is_new h (Text id s l r c) id ready.0 refl
run_unheld id s l r (c ∷ text) h (suc k) ready less =
    let first : Op = Text id s l r c in
    let later : holds (first ∷ h) (id_after (next_id id) k) ≡ false = run_unheld (next_id id) s (Some id) r text (first ∷ h) k ready.1 (omega (arith, less)) in
    false_from_ne_true _ (λ t. true≢false (sym (holds-older first h (id_after id (suc k)) t) ∙ ap (holds (first ∷ h)) (sym (one_after id k)) ∙ later))

-- so they have no positions
pub run_free : (m : FinMap id_cmp Position) (h : List Op) (start : RunStart) (text : List ℕ) → ArePositions m h → ReadyInTurn h (run_from start text)
    → AreFree (get m) start.id (length text)
run_free m h start text are ready =
    unheld_free m h start.id (length text) are (λ k less. run_unheld start.id start.section start.left start.right text h k ready less)

-- a run has no Section and no Note
no_sections : (id s : Identifier) (l r : Option Identifier) (text : List ℕ) (h : List Op) → sections_and_notes (history_with h (in_a_row id s l r text)) ≡ sections_and_notes h
no_sections id s l r [] h = refl
no_sections id s l r (c ∷ text) h = no_sections (next_id id) s (Some id) r text (Text id s l r c ∷ h) ∙ append-nil (sections_and_notes h)

pub run_listed : (h : List Op) (start : RunStart) (text : List ℕ) → sections_and_notes (history_with h (run_from start text)) ≡ sections_and_notes h
run_listed h start text = no_sections start.id start.section start.left start.right text h

take_more : (text : List ℕ) (n : ℕ) → n < length text → take (suc n) text ≡ take n text ++ get_or text n 0 ∷ []
take_more [] n less = absurd (omega (arith, less))
take_more (c ∷ text) zero less = refl
take_more (c ∷ text) (suc n) less = ap (λ z. c ∷ z) (take_more text n (omega (arith, less)))

-- one letter more
one_more : (h : List Op) (start : RunStart) (text : List ℕ) (n : ℕ) → n < length text
    → history_with h (run_from start (take (suc n) text)) ≡ text_by (start_after start n) (get_or text n 0) ∷ history_with h (run_from start (take n text))
one_more h start text n less =
    let front : List ℕ = take n text in
    let ch : ℕ = get_or text n 0 in
    let len : length front ≡ n = length-front text n (omega (arith, less)) in
    ap (λ z. history_with h (run_from start z)) (take_more text n less)
    ∙ ap (history_with h) (typed-append start.id start.section start.left start.right front (ch ∷ []))
    ∙ (λ i. history_with h (run_from start front ++ in_a_row (id_after start.id (len i)) start.section (left_after start.left start.id (len i)) start.right (ch ∷ [])))
    ∙ extended-append h (run_from start front) (text_by (start_after start n) ch ∷ [])

letters_noted : (m : FinMap id_cmp Position) (h : List Op) (start : RunStart) (text : List ℕ) (n : ℕ) → n ≤ length text → ArePositions m h
    → ArePositions (with_positions start.id (length h) n m) (history_with h (run_from start (take n text)))
letters_noted m h start text zero within are = are
letters_noted m h start text (suc n) within are =
    let less : n < length text = omega (arith, within) in
    let front : List ℕ = take n text in
    let before : List Op = history_with h (run_from start front) in
    let a : length before ≡ length h + length (run_from start front) = length-extended (run_from start front) h in
    let b : length (run_from start front) ≡ length front = length-run start front in
    let c : length front ≡ n = length-front text n (omega (arith, within)) in
    subst (ArePositions (with_positions start.id (length h) (suc n) m)) (sym (one_more h start text n less))
    (noted_own (text_by (start_after start n) (get_or text n 0)) before (with_positions start.id (length h) n m)
    (with_positions start.id (length h) (suc n) m) (id_after start.id n) (length h + n) refl refl (letters_noted m h start text n (omega (arith, within)) are)
    (omega (arith, a, b, c)))

-- the positions of a run
pub run_noted : (m : FinMap id_cmp Position) (h : List Op) (start : RunStart) (text : List ℕ) → ArePositions m h
    → ArePositions (with_positions start.id (length h) (length text) m) (history_with h (run_from start text))
run_noted m h start text are =
    subst (λ z. ArePositions (with_positions start.id (length h) (length text) m) (history_with h (run_from start z))) (all text)
    (letters_noted m h start text (length text) (omega arith) are)
  where
    all : (text : List ℕ) → take (length text) text ≡ text
    all [] = refl
    all (c ∷ text) = ap (λ z. c ∷ z) (all text)

-- as many as came are taken back
pub back_again : (ops run new old : List Op) (n : ℕ) → new ≡ ops ++ run → length run ≡ n → old ≡ take (length new - n) new → old ≡ ops
back_again ops run new old n is len gone =
    let k : length (ops ++ run) - n ≡ length ops = omega (arith, len, length-append ops run) in
    gone ∙ (λ i. take (length (is i) - n) (is i)) ∙ ap (λ j. take j (ops ++ run)) k ∙ take-append_seam ops run

-- no Delete is a Section or a Note
pub row_listed : (n : ℕ) (x : Identifier) (h : List Op) → sections_and_notes (history_with h (deletes_up x n)) ≡ sections_and_notes h
row_listed zero x h = refl
row_listed (suc n) x h = row_listed n (next_id x) (Delete x ∷ h) ∙ append-nil (sections_and_notes h)

-- or has a position
pub row_noted : (n : ℕ) (m : FinMap id_cmp Position) (x : Identifier) (h : List Op) → ArePositions m h → ArePositions m (history_with h (deletes_up x n))
row_noted zero m x h are = are
row_noted (suc n) m x h are = row_noted n m (next_id x) (Delete x ∷ h) (noted_none (Delete x) h m refl are)

-- operations that are appended to a list join the history that it is of
pub appended_joins : (ops new run : List Op) → new ≡ ops ++ run → reverse new ≡ history_with (reverse ops) run
appended_joins ops new run is =
    let h : List Op = reverse ops in
    ap reverse (is ∙ ap (λ z. z ++ run) (sym (reverse-reverse ops)) ∙ sym (join_at_end h run)) ∙ reverse-reverse (history_with h run)

-- what is in a list is in it the other way round
turned_found : (ops : List Op) (op : Op) → has_op ops op ≡ true → has_op (reverse ops) op ≡ true
turned_found [] op found = found
turned_found (o ∷ ops) op found =
    let longer : has_op (reverse (o ∷ ops)) op ≡ has_op (reverse ops) op || has_op (o ∷ []) op =
    ap (λ z. has_op z op) (reverse-append (o ∷ []) ops) ∙ has-append (reverse ops) (o ∷ []) op in
    elim (or_cases (op_eq o op) (has_op ops op) found) [
      | inl here ↦ longer ∙ or_right _ _ (or_left _ _ here)
      | inr there ↦ longer ∙ or_left _ _ (turned_found ops op there)
    ]

pub history_has : (ops more : List Op) → All (λ o. has_op ops o ≡ true) more → All (λ o. has_op (reverse ops) o ≡ true) more
history_has ops more there = All-weaker (λ o. has_op ops o ≡ true) (λ o. has_op (reverse ops) o ≡ true) (turned_found ops) more there

-- How far a list has the operations of another one

front_within : (xs ys : List Op) → common_prefix xs ys ≤ length ys
front_within [] ys = omega arith
front_within (x ∷ xs) [] = omega arith
front_within (x ∷ xs) (y ∷ ys) =
    elim (cases_Bool (op_eq x y)) [
      | inl e ↦ rw (e, common_prefix) (let r = front_within xs ys in omega (arith, r))
      | inr e ↦ rw (e, common_prefix) (omega arith)
    ]

front_has : (xs ys : List Op) → All (λ o. has_op xs o ≡ true) (take (common_prefix xs ys) ys)
front_has [] ys = All-nil (λ o. has_op [] o ≡ true)
front_has (x ∷ xs) [] = All-nil (λ o. has_op (x ∷ xs) o ≡ true)
front_has (x ∷ xs) (y ∷ ys) =
    elim (cases_Bool (op_eq x y)) [
      | inl e ↦ subst (λ b. All (λ o. has_op (x ∷ xs) o ≡ true) (take (if b then suc (common_prefix xs ys) else 0) (y ∷ ys))) (sym e)
          (All-cons (λ o. has_op (x ∷ xs) o ≡ true) y (take (common_prefix xs ys) ys) (or_left _ _ e)
          (All-weaker (λ o. has_op xs o ≡ true) (λ o. has_op (x ∷ xs) o ≡ true) (λ o there. or_right _ _ there) (take (common_prefix xs ys) ys) (front_has xs ys)))
      | inr e ↦ subst (λ b. All (λ o. has_op (x ∷ xs) o ≡ true) (take (if b then suc (common_prefix xs ys) else 0) (y ∷ ys))) (sym e) (All-nil (λ o. has_op (x ∷ xs) o ≡ true))
    ]

-- what stands after others in a list is in it
after_has : (k : ℕ) (ops : List Op) (op : Op) → has_op (drop k ops) op ≡ true → has_op ops op ≡ true
after_has zero ops op there = there
after_has (suc k) [] op there = there
after_has (suc k) (o ∷ ops) op there = or_right _ _ (after_has k ops op there)

-- the first letters of a run
front_of_run : (start : RunStart) (text : List ℕ) (n : ℕ) → take n (run_from start text) ≡ run_from start (take n text)
front_of_run start text n = in_row n start.id start.section start.left start.right text
  where
    in_row : (n : ℕ) (id s : Identifier) (l r : Option Identifier) (text : List ℕ) → take n (in_a_row id s l r text) ≡ in_a_row id s l r (take n text)
    in_row zero id s l r text = refl
    in_row (suc n) id s l r [] = refl
    in_row (suc n) id s l r (c ∷ text) = ap (λ z. Text id s l r c ∷ z) (in_row n (next_id id) s (Some id) r text)

-- the letters at the front of a run that the list has from a position on
module _ (ops : List Op) (position : ℕ) (start : RunStart) (text : List ℕ) where
  abbrev count : ℕ
  count = common_prefix (drop position ops) (run_from start text)

  pub repeated_within : count ≤ length text
  repeated_within = omega (arith, front_within (drop position ops) (run_from start text), length-run start text)

  pub repeated_there : All (λ o. has_op (reverse ops) o ≡ true) (run_from start (take count text))
  repeated_there =
      history_has ops (run_from start (take count text))
      (subst (All (λ o. has_op ops o ≡ true)) (front_of_run start text count)
      (All-weaker (λ o. has_op (drop position ops) o ≡ true) (λ o. has_op ops o ≡ true) (after_has position ops) (take count (run_from start text))
      (front_has (drop position ops) (run_from start text))))

-- The last operation goes

last_apart : (ops : List Op) (op : Op) → Some op ≡ slice_get ops (length ops - 1) → ops ≡ take (length ops - 1) ops ++ op ∷ []
last_apart [] op is = cc
last_apart (x ∷ ops) op is =
    let n : length (x ∷ ops) - 1 ≡ length ops = omega arith in
    at_end x ops (is ∙ ap (slice_get (x ∷ ops)) n) ∙ ap (λ k. take k (x ∷ ops) ++ op ∷ []) (sym n)
  where
    at_end : (x : Op) (ops : List Op) → Some op ≡ slice_get (x ∷ ops) (length ops) → x ∷ ops ≡ take (length ops) (x ∷ ops) ++ op ∷ []
    at_end x [] is = let same : x ≡ op = cc in ap (λ z. z ∷ []) same
    at_end x (y ∷ ops) is = ap (λ z. x ∷ z) (at_end y ops is)

-- the history without its newest operation
pub newest_apart : (ops new : List Op) (op : Op) → Some op ≡ slice_get ops (length ops - 1) → new ≡ take (length ops - 1) ops → reverse ops ≡ op ∷ reverse new
newest_apart ops new op is gone =
    ap reverse (last_apart ops op is) ∙ reverse-append (take (length ops - 1) ops) (op ∷ []) ∙ ap (λ z. op ∷ reverse z) (sym gone)

-- the last operation is the newest
pub newest_found : (ops : List Op) (found : Option Op) → found ≡ slice_get ops (length ops - 1) → found ≡ slice_get (reverse ops) 0
newest_found ops (Some op) is = ap (λ h. slice_get h 0) (sym (newest_apart ops (take (length ops - 1) ops) op is refl))
newest_found [] None is = refl
newest_found (x ∷ ops) None is = let n : length (x ∷ ops) - 1 ≡ length ops = omega arith in absurd (some_last x ops (is ∙ ap (slice_get (x ∷ ops)) n))
  where
    some_last : (x : Op) (ops : List Op) → None ≡ slice_get (x ∷ ops) (length ops) → ⊥
    some_last x [] e = cc
    some_last x (y ∷ ops) e = some_last y ops e

pub newest_last : (ops : List Op) (found : Option Op) → found ≡ slice_get ops (length ops - 1) → option_and_then id_of found ≡ newest_id (reverse ops)
newest_last ops found is = ap (option_and_then id_of) (newest_found ops found is) ∙ of_first (reverse ops)
  where
    of_first : (h : List Op) → option_and_then id_of (slice_get h 0) ≡ newest_id h
    of_first [] = refl
    of_first (op ∷ h) = refl

-- an operation stands after a list: in the history it is the newest
pub newest_after : (ops new : List Op) (op : Op) → ops ≡ new ++ op ∷ [] → reverse ops ≡ op ∷ reverse new
newest_after ops new op is = ap reverse is ∙ reverse-append new (op ∷ [])

pub last_found : (ops : List Op) (op : Op) → Some op ≡ slice_get (reverse ops) 0 → Some op ≡ slice_get ops (length ops - 1)
last_found ops op is = is ∙ sym (newest_found ops (slice_get ops (length ops - 1)) refl)
