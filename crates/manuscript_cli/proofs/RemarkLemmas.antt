-- What withdrawing a comment gives to a file's replica.
use Rattle.std.proofs.Common.{List, ap, arith, false, inl, inr, length, refl, true, sym, ◌+◌, ◌≤◌, ◌∙◌, ◌≡◌, ℕ}
use Rattle.std.specs.Prelude.{Bool, Err, IfSome, None, Ok, Option, Result, Some, if◌then◌else◌, nat_lt, option_map, ◌⊎◌}
use Rattle.std.proofs.lemmas.Bool.Decides.{nat_tests}
use Rattle.fugue_ids.specs.declared.op.Op.{Op}
use Rattle.fugue_ids.specs.declared.op.Op.TheVariants.{Delete}
use Rattle.origin_model.specs.declared.edit_fault.EditFault.TheVariants as edit
use Rattle.origin_model.specs.edits.Refusal.{held_count, refused_ops}
use Rattle.origin_model.specs.edits.State.{State as Replica, IsSound}
use Rattle.origin_model.specs.taking.Taking.{IsSettled}
use Rattle.origin_model.proofs.edits.FreshIdLemmas.{delete_unknown}
use Rattle.passage_remarks.specs.Remarks.{Remark}
use Rattle.passage_remarks.specs.Withdrawing.{IsWithdrawn, RefusesWithdrawal, as_withdraw_fault, remark_numbered, withdraw_refusal}
use Rattle.passage_remarks.specs.declared.withdrawing.WithdrawFault.{WithdrawFault}
use Rattle.passage_remarks.specs.declared.withdrawing.WithdrawFault.TheVariants as fault
use Rattle.command_kinds.specs.Findings.{Does}
use Rattle.command_kinds.specs.Giving.{GivesTo}
use Rattle.command_kinds.specs.Notes.{NoteComes, note_source}
use Rattle.command_kinds.specs.declared.counts.Note.TheVariants as note
use Rattle.command_kinds.proofs.NoteLemmas.{note_gives_none, op_gives}
use Rattle.manuscript_cli.specs.Remarks.{withdraw_on, withdraw_refused, withdrawal}

-- where nothing was refused, there is no refusal
none_refused : (o : Option WithdrawFault) → IfSome o
    (λ (f : WithdrawFault). ◌⊎◌ (◌≡◌ {A = Result (Unit {0}) WithdrawFault} (Ok tt) (Err f)) (◌≡◌ {A = Result (Unit {0}) WithdrawFault} (Ok tt) (Err fault.NoMemory))) → o ≡ None
none_refused None h = refl
none_refused (Some f) h = elim h [ inl e ↦ cc | inr e ↦ cc ]

-- and room for the Delete
has_room : (s : Replica) → option_map as_withdraw_fault (refused_ops s 1) ≡ None → length s.held.history + length s.held.waiting + 1 ≤ s.most
has_room s e = by (nat_lt s.most (held_count s + 1)) refl e
  where
    by : (b : Bool) → nat_lt s.most (held_count s + 1) ≡ b → option_map as_withdraw_fault (if b then Some (edit.TooMany (held_count s)) else None) ≡ None
        → length s.held.history + length s.held.waiting + 1 ≤ s.most
    by true k e = cc
    by false k e = grind (arith, nat_tests)

pub withdrawal_made : (n : ℕ) (old new : Replica) → IsWithdrawn old new n → RefusesWithdrawal old n (Ok tt) → IsSound old → IsSettled old.held → (kept : Option (List Op))
    → GivesTo (note_source (withdraw_on n)) old new kept (Ok (note.Made 1))
withdrawal_made n old new made refuses sound settled kept =
    let r : Remark = made.remark in
    let none : withdraw_refusal old n ≡ None = none_refused (withdraw_refusal old n) refuses.always in
    let found_is : withdraw_on n old ≡ Does (Delete r.id) = λ i. withdrawal n (none i) (made.numbered i) in
    let room : option_map as_withdraw_fault (refused_ops old 1) ≡ None =
    sym (ap (λ o. elim o [ None ↦ Some fault.NoComment | Some q ↦ option_map as_withdraw_fault (refused_ops old 1) ]) made.numbered) ∙ none in
    op_gives (withdraw_on n) old new (Delete r.id) found_is made.ready (delete_unknown old.held.waiting r.id) (has_room old room) made.gained sound settled kept

-- nothing was withdrawn, and why
comes_none : (n : ℕ) (old new : Replica) (f : WithdrawFault) → RefusesWithdrawal old n (Err f) → NoteComes (withdraw_on n old) old new (Err (withdraw_refused n f))
comes_none n old new fault.NoComment refuses = ap (λ o. withdrawal n o (remark_numbered old.held.history n)) (refuses.only fault.NoComment (λ e. cc) refl)
comes_none n old new (fault.TooMany held) refuses = ap (λ o. withdrawal n o (remark_numbered old.held.history n)) (refuses.only (fault.TooMany held) (λ e. cc) refl)
comes_none n old new fault.NoMemory refuses = tt

pub withdrawal_none : (n : ℕ) (old new : Replica) (kept : Option (List Op)) (f : WithdrawFault) → RefusesWithdrawal old n (Err f)
    → GivesTo (note_source (withdraw_on n)) old new kept (Err (withdraw_refused n f))
withdrawal_none n old new kept f refuses = note_gives_none (withdraw_on n) old new kept (withdraw_refused n f) (comes_none n old new f refuses)
