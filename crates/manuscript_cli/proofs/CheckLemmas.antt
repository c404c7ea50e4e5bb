-- What `check` tells, and how it reads the text.
use Rattle.std.proofs.Common.{Bool, List, [], ap, false, inl, inr, sym, true, ℕ, ◌++◌, ◌∙◌, ◌∷◌, ◌≡◌, ◌↔◌}
use Rattle.std.specs.Prelude.{codes}
use Rattle.std.proofs.lemmas.Bool.{cases_Bool, true≢false}
use Rattle.origin_model.specs.operations.Verdict.{Lawful}
use Rattle.origin_model.specs.edits.State.{State as Replica}
use Rattle.order_proof.specs.Readings.{IsValidText}
use Rattle.manuscript_cli.specs.Check.{check_reports}
use Rattle.command_kinds.specs.Findings.{Finding, Refuses, Does}

-- one thing is reported
pub check_once : (text : List ℕ) (replica : Replica) → Lawful replica.held.history → (a b : Finding (List ℕ)) → check_reports text replica a → check_reports text replica b → a ≡ b
check_once text replica w (Does a) (Does b) (inl one) (inl two) = ap Does (one.1 ∙ sym two.1)
check_once text replica w (Does a) (Does b) (inl one) (inr two) = absurd (two.0 one.0)
check_once text replica w (Does a) (Does b) (inr one) (inl two) = absurd (one.0 two.0)
check_once text replica w (Does a) (Does b) (inr one) (inr two) = ap Does (one.1 ∙ sym two.1)
check_once text replica w (Does a) (Refuses why) one two = absurd two
check_once text replica w (Refuses why) b one two = absurd one

-- the answer that is written
pub answer_reported : (text bytes : List ℕ) (replica : Replica) (valid : Bool) → (valid ≡ true) ↔ IsValidText replica.held.history text
    → (valid ≡ true → bytes ≡ codes "yes" ++ 10 ∷ [])
    → (valid ≡ false → bytes ≡ codes "no" ++ 10 ∷ []) → check_reports text replica (Does bytes)
answer_reported text bytes replica valid tested affirms denies =
    elim (cases_Bool valid) [
      | inl is ↦ inl (tested.0 is, affirms is)
      | inr not ↦ inr ((λ t. true≢false (sym (tested.1 t) ∙ not)), denies not)
    ]
