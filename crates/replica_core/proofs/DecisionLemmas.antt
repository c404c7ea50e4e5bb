-- What a decision has to do with the answer to an operation.
use Rattle.std.proofs.Common.{◌≡◌, refl, sym, ◌∙◌, ap, Bool, true, false, ◌||◌, nat_eq, ◌+◌, ℕ, length, arith}
use Rattle.std.proofs.lemmas.Bool.{false≢true}
use Rattle.std.specs.Prelude.{if◌then◌else◌, Option, Some, None, ◌↔◌}
use Rattle.fugue_ids.specs.Identifiers.{Identifier}
use Rattle.fugue_ids.specs.Ops.{id_of}
use Rattle.fugue_ids.specs.declared.op.Op.{Op}
use Rattle.causal_inbox.specs.declared.index.Found.{Found}
use Rattle.causal_inbox.specs.declared.index.Found.TheVariants.{Same, Clash, Absent}
use Rattle.origin_model.specs.operations.History.{has_op}
use Rattle.origin_model.specs.operations.Verdict.{verdict, first_line, first_stray, first_missing, names, id_held}
use Rattle.origin_model.specs.declared.operations.Verdict.{Verdict}
use Rattle.origin_model.specs.declared.operations.Verdict.TheVariants.{Again as AgainOnHistory, Conflict as ConflictOnHistory, Stray as StrayOnHistory, Missing as MissingOnHistory}
use Rattle.origin_model.specs.declared.operations.Verdict.TheVariants.{Ready as ReadyOnHistory}
use Rattle.origin_model.specs.taking.Taking.{Held, Answer, Again, Conflict, Full, Waits, answer, answer_by, is_again, is_kept, is_taken, is_decided}
use Rattle.replica_core.specs.declared.replica.Decision.{Decision}
use Rattle.replica_core.specs.Decision.{decision_of, answer_by_decision}

-- what is found, by the two look-ups
abbrev found_by : (same id_waits : Bool) → Found
found_by true id_waits = Same
found_by false true = Clash
found_by false false = Absent

found_is : (same id_waits : Bool) (found : Found)
    → ((found ≡ Same) ↔ (same ≡ true)) → ((found ≡ Clash) ↔ ((same ≡ false) × (id_waits ≡ true))) → ((found ≡ Absent) ↔ ((same ≡ false) × (id_waits ≡ false)))
    → found ≡ found_by same id_waits
found_is true id_waits found s c a = s.1 refl
found_is false true found s c a = c.1 (refl, refl)
found_is false false found s c a = a.1 (refl, refl)

-- the answer, by the look-ups and the verdict
abbrev pub answer_from : (again taken at_most at_hold : Bool) → Verdict → Answer
answer_from again taken at_most at_hold v = if again then Again else if taken then Conflict else answer_by at_most at_hold v

lines_agree : (again same id_accepted id_waits : Bool) (stray missing : Option Identifier) (at_most at_hold : Bool)
    → answer_from (again || same) (id_accepted || id_waits) at_most at_hold (first_line again id_accepted stray missing)
    ≡ answer_by_decision at_hold (decision_of (found_by same id_waits) (first_line again id_accepted stray missing) at_most)
lines_agree true true id_accepted id_waits stray missing at_most at_hold = refl
lines_agree true false id_accepted true stray missing at_most at_hold = refl
lines_agree true false id_accepted false stray missing at_most at_hold = refl
lines_agree false true id_accepted id_waits stray missing at_most at_hold = refl
lines_agree false false true true stray missing at_most at_hold = refl
lines_agree false false true false stray missing at_most at_hold = refl
lines_agree false false false true (Some i) missing at_most at_hold = refl
lines_agree false false false true None (Some i) at_most at_hold = refl
lines_agree false false false true None None at_most at_hold = refl
lines_agree false false false false (Some i) missing at_most at_hold = refl
lines_agree false false false false None (Some i) true at_hold = refl
lines_agree false false false false None (Some i) false true = refl
lines_agree false false false false None (Some i) false false = refl
lines_agree false false false false None None true at_hold = refl
lines_agree false false false false None None false at_hold = refl

-- the decision comes to the answer
pub answer_decided : (hold most : ℕ) (s : Held) (op : Op) (found : Found)
    → ((found ≡ Same) ↔ (has_op s.waiting op ≡ true))
    → ((found ≡ Clash) ↔ ((has_op s.waiting op ≡ false) × (id_held s.waiting (id_of op) ≡ true)))
    → ((found ≡ Absent) ↔ ((has_op s.waiting op ≡ false) × (id_held s.waiting (id_of op) ≡ false)))
    → answer hold most s op ≡ answer_by_decision (nat_eq (length s.waiting) hold) (decision_of found (verdict s.history op) (nat_eq (length s.history + length s.waiting) most))
unfolding verdict
answer_decided hold most s op found same clash absent =
    lines_agree (has_op s.history op) (has_op s.waiting op) (id_held s.history (id_of op)) (id_held s.waiting (id_of op))
    (first_stray s.history (names op)) (first_missing s.history (names op))
    (nat_eq (length s.history + length s.waiting) most) (nat_eq (length s.waiting) hold)
    ∙ ap (λ (f : Found). answer_by_decision (nat_eq (length s.waiting) hold) (decision_of f (verdict s.history op) (nat_eq (length s.history + length s.waiting) most)))
    (sym (found_is (has_op s.waiting op) (id_held s.waiting (id_of op)) found same clash absent))

-- the same, by what the calls say
pub decision_by : (hold most : ℕ) (s : Held) (op : Op) (found : Found) (v : Verdict) (accepted_count waiting_count : ℕ) (result : Decision)
    → ((found ≡ Same) ↔ (has_op s.waiting op ≡ true))
    → ((found ≡ Clash) ↔ ((has_op s.waiting op ≡ false) × (id_held s.waiting (id_of op) ≡ true)))
    → ((found ≡ Absent) ↔ ((has_op s.waiting op ≡ false) × (id_held s.waiting (id_of op) ≡ false)))
    → v ≡ verdict s.history op → accepted_count ≡ length s.history → waiting_count ≡ length s.waiting
    → result ≡ decision_of found v (nat_eq (accepted_count + waiting_count) most)
    → answer hold most s op ≡ answer_by_decision (nat_eq (length s.waiting) hold) result
decision_by hold most s op found v accepted_count waiting_count result same clash absent is_verdict is_count is_waiting is_result =
    let held : accepted_count + waiting_count ≡ length s.history + length s.waiting =
    omega (arith, is_count, is_waiting) in
    answer_decided hold most s op found same clash absent
    ∙ ap (answer_by_decision (nat_eq (length s.waiting) hold))
    (ap (λ (w : Verdict). decision_of found w (nat_eq (length s.history + length s.waiting) most)) (sym is_verdict)
    ∙ ap (λ (n : ℕ). decision_of found v (nat_eq n most)) (sym held)
    ∙ sym is_result)

-- what an operation that is kept has
pub record IsNew (most : ℕ) (s : Held) (op : Op) : Type 0 where
  pub absent : is_again s op ≡ false
  pub own_id : is_taken s op ≡ false
  pub below : nat_eq (length s.history + length s.waiting) most ≡ false

pub not_most : (at_most at_hold : Bool) (v : Verdict) → is_kept (answer_by at_most at_hold v) ≡ true → at_most ≡ false
not_most false at_hold v e = refl
not_most true at_hold AgainOnHistory e = absurd (false≢true e)
not_most true at_hold ConflictOnHistory e = absurd (false≢true e)
not_most true at_hold (StrayOnHistory i) e = absurd (false≢true e)
not_most true at_hold (MissingOnHistory i) e = absurd (false≢true e)
not_most true at_hold ReadyOnHistory e = absurd (false≢true e)

kept_from : (again taken at_most at_hold : Bool) (v : Verdict) → is_kept (answer_from again taken at_most at_hold v) ≡ true → (again ≡ false) × (taken ≡ false) × (at_most ≡ false)
kept_from true taken at_most at_hold v e = absurd (false≢true e)
kept_from false true at_most at_hold v e = absurd (false≢true e)
kept_from false false at_most at_hold v e = (refl, refl, not_most at_most at_hold v e)

-- an operation that is kept is new
pub kept_new : (hold most : ℕ) (s : Held) (op : Op) → is_kept (answer hold most s op) ≡ true → IsNew most s op
kept_new hold most s op e =
    let f = kept_from (is_again s op) (is_taken s op) (nat_eq (length s.history + length s.waiting) most) (nat_eq (length s.waiting) hold) (verdict s.history op) e in
    record { absent = f.0; own_id = f.1; below = f.2 }

-- the answer to an operation that is to wait
abbrev pub may_wait : Answer → Bool
may_wait Full = true
may_wait Waits = true
may_wait _ = false

undecided_from : (again taken at_most at_hold : Bool) (v : Verdict) → may_wait (answer_from again taken at_most at_hold v) ≡ true → is_decided v ≡ false
undecided_from again taken at_most at_hold AgainOnHistory e = refl
undecided_from again taken at_most at_hold ConflictOnHistory e = refl
undecided_from again taken at_most at_hold (MissingOnHistory i) e = refl
undecided_from true taken at_most at_hold (StrayOnHistory i) e = absurd (false≢true e)
undecided_from false true at_most at_hold (StrayOnHistory i) e = absurd (false≢true e)
undecided_from false false at_most at_hold (StrayOnHistory i) e = absurd (false≢true e)
undecided_from true taken at_most at_hold ReadyOnHistory e = absurd (false≢true e)
undecided_from false true at_most at_hold ReadyOnHistory e = absurd (false≢true e)
undecided_from false false true at_hold ReadyOnHistory e = absurd (false≢true e)
undecided_from false false false at_hold ReadyOnHistory e = absurd (false≢true e)

-- an operation that is to wait is not decided
pub waits_undecided : (hold most : ℕ) (s : Held) (op : Op) → may_wait (answer hold most s op) ≡ true → is_decided (verdict s.history op) ≡ false
waits_undecided hold most s op e =
    undecided_from (is_again s op) (is_taken s op) (nat_eq (length s.history + length s.waiting) most) (nat_eq (length s.waiting) hold) (verdict s.history op) e

-- the answer that a decision to wait comes to is one of waiting
pub may_wait-decided : (at_hold : Bool) → may_wait (if at_hold then Full else Waits) ≡ true
may_wait-decided true = refl
may_wait-decided false = refl
