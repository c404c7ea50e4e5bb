-- A comment that is withdrawn: which Delete is made, and why there is none. Remarks count from 1.
use Rattle.std.specs.Prelude.{◌≡◌, ◌≢◌, ◌⊎◌, ◌-◌, ℕ, Option, Some, None, IfSome, Result, Err, List, [], ◌∷◌, option_map, slice_get}
use Rattle.fugue_ids.specs.declared.op.Op.{Op}
use Rattle.fugue_ids.specs.declared.op.Op.TheVariants.{Delete}
use Rattle.origin_model.specs.edits.Effect.{Gains}
use Rattle.origin_model.specs.edits.Refusal.{refused_ops}
use Rattle.origin_model.specs.edits.State.{State}
use Rattle.origin_model.specs.operations.Verdict.{verdict}
use Rattle.origin_model.specs.declared.edit_fault.EditFault.{EditFault}
use Rattle.origin_model.specs.declared.edit_fault.EditFault.TheVariants as edit
use Rattle.origin_model.specs.declared.operations.Verdict.TheVariants.{Ready}
use Rattle.passage_remarks.specs.Remarks.{Remark, remarks}
use Rattle.passage_remarks.specs.declared.withdrawing.WithdrawFault.{WithdrawFault}
use Rattle.passage_remarks.specs.declared.withdrawing.WithdrawFault.TheVariants.{NoComment, TooMany, NoMemory}

-- the remark with this number
abbrev pub remark_numbered : List Op → ℕ → Option Remark
remark_numbered h n = slice_get (remarks h) (n - 1)

-- a fault of a Delete, as withdrawing tells it
abbrev pub as_withdraw_fault : EditFault → WithdrawFault
as_withdraw_fault (edit.TooMany held) = TooMany held
as_withdraw_fault _ = NoMemory

-- why no comment is withdrawn: there is no such remark, or one operation more is refused
abbrev pub withdraw_refusal : State → ℕ → Option WithdrawFault
withdraw_refusal s n =
    elim (remark_numbered s.held.history n) [ None ↦ Some NoComment | Some r ↦ option_map as_withdraw_fault (refused_ops s 1) ]

-- the Delete of the comment was made, and nothing else
pub record IsWithdrawn (old new : State) (n : ℕ) : Type 0 where
  pub remark : Remark
  pub numbered : remark_numbered old.held.history n ≡ Some remark
  pub ready : verdict old.held.history (Delete remark.id) ≡ Ready
  pub gained : Gains old new (Delete remark.id ∷ [])

-- a refusal comes with its cause alone, and where there is a cause, its refusal comes, or an allocation failure
pub record RefusesWithdrawal (s : State) (n : ℕ) (result : Result (Unit {0}) WithdrawFault) : Type 0 where
  pub only : (fault : WithdrawFault) → fault ≢ NoMemory → result ≡ Err fault → withdraw_refusal s n ≡ Some fault
  pub always : IfSome (withdraw_refusal s n) (λ fault. (result ≡ Err fault) ⊎ (result ≡ Err NoMemory))
