-- What is taken in never passes the limit on the number that is held.
use Rattle.std.proofs.Common.{Bool, List, [], arith, false, length, nat_eq, refl, suc, true, ℕ, ◌+◌, ◌∷◌, ◌≡◌, ◌≢◌, ◌≤◌, ap}
use Rattle.std.specs.Prelude.{if◌then◌else◌}
use Rattle.std.proofs.lemmas.Bool.{eqb-false, false≢true}
use Rattle.std.proofs.lemmas.List.{length-append}
use Rattle.fugue_ids.specs.declared.op.Op.{Op}
use Rattle.origin_model.specs.declared.operations.Verdict.{Verdict}
use Rattle.origin_model.specs.declared.operations.Verdict.TheVariants.{Ready, Stray}
use Rattle.origin_model.specs.operations.Verdict.{verdict}
use Rattle.origin_model.specs.taking.Taking.{Accepted, Again, Answer, Conflict, Held, TooMany, Waits, answer, answer_by, held_from, intake, is_again, is_kept, is_taken, joined}
use Rattle.origin_model.specs.taking.Taking.{held_after}
use Rattle.origin_model.proofs.SharedLemmas.{IsEarliest, without}
use Rattle.replica_core.proofs.DecisionLemmas.{not_most}
use Rattle.replica_file.proofs.LoadingLemmas.{settle_few}

-- how many operations are held
abbrev pub count : Held → ℕ
count s = length s.history + length s.waiting

kept_by_lines : (again other full at_hold : Bool) (v : Verdict) → is_kept (if again then Again else if other then Conflict else answer_by full at_hold v) ≡ true → full ≡ false
kept_by_lines true other full at_hold v k = absurd (false≢true k)
kept_by_lines false true full at_hold v k = absurd (false≢true k)
kept_by_lines false false full at_hold v k = not_most full at_hold v k

-- one that is kept had room
kept_room : (hold most : ℕ) (s : Held) (op : Op) → is_kept (answer hold most s op) ≡ true → count s ≢ most
kept_room hold most s op k =
    eqb-false (count s) most (kept_by_lines (is_again s op) (is_taken s op) (nat_eq (count s) most) (nat_eq (length s.waiting) hold) (verdict s.history op) k)

full_by : (full at_hold : Bool) (v : Verdict) → answer_by full at_hold v ≡ TooMany → full ≡ true
full_by full at_hold (Stray i) e = cc e
full_by true at_hold v e = refl
full_by false at_hold Ready e = cc e
full_by false true v e = cc e
full_by false false v e = cc e

full_by_lines : (again other full at_hold : Bool) (v : Verdict) → (if again then Again else if other then Conflict else answer_by full at_hold v) ≡ TooMany → full ≡ true
full_by_lines true other full at_hold v e = cc e
full_by_lines false true full at_hold v e = cc e
full_by_lines false false full at_hold v e = full_by full at_hold v e

-- one is too many where all places are taken alone
pub too_many : (hold most : ℕ) (s : Held) (op : Op) → answer hold most s op ≡ TooMany → nat_eq (count s) most ≡ true
too_many hold most s op e = full_by_lines (is_again s op) (is_taken s op) (nat_eq (count s) most) (nat_eq (length s.waiting) hold) (verdict s.history op) e

one_leaves : (s : Held) (r : Op × List Op) → IsEarliest s.history s.waiting r → count (without s r) ≤ count s
one_leaves s r e = by (verdict s.history r.0)
  where
    fewer : length s.waiting ≡ suc (length r.1)
    fewer = e.fewer

    by : (v : Verdict) → length (joined v r.0 s.history) + length r.1 ≤ count s
    by Ready = omega (arith, fewer)
    by _ = omega (arith, fewer)

taken_fits : (hold most : ℕ) (s : Held) (op : Op) → count s ≤ most → (a : Answer) → answer hold most s op ≡ a → count (held_after a s op) ≤ most
taken_fits hold most s op l Accepted e = let other : count s ≢ most = kept_room hold most s op (ap is_kept e) in omega (arith, l, other)
taken_fits hold most s op l Waits e = let other : count s ≢ most = kept_room hold most s op (ap is_kept e) in omega (arith, l, other, length-append s.waiting (op ∷ []))
taken_fits hold most s op l _ e = l

pub few_held : (hold most : ℕ) (s : Held) (ops : List Op) → count s ≤ most → count (held_from hold most s ops) ≤ most
few_held hold most s [] l = l
few_held hold most s (op ∷ ops) l =
    let settled : count (intake hold most s op) ≤ count (held_after (answer hold most s op) s op) = settle_few (held_after (answer hold most s op) s op) in
    let one : count (held_after (answer hold most s op) s op) ≤ most = taken_fits hold most s op l (answer hold most s op) refl in
    few_held hold most (intake hold most s op) ops (omega (arith, settled, one))
