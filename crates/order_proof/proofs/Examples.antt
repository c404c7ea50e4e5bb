-- A small certificate, checked by computation.
use Rattle.std.proofs.Common.{List, [], false, refl, true, ◌∷◌, ◌≡◌, ℕ}
use Rattle.std.specs.Prelude.{None, Option, Some, codes, decimal, ◌++◌}
use Rattle.std.proofs.Common.{arith}
use Rattle.std.proofs.lemmas.Fmt.{decimal_digit}
use Rattle.order_proof.specs.Texts.{proof_text}
use Rattle.fugue_ids.specs.Identifiers.{Identifier}
use Rattle.fugue_ids.specs.declared.op.Op.{Op}
use Rattle.fugue_ids.specs.declared.op.Op.TheVariants.{Section, Text}
use Rattle.origin_model.specs.operations.Verdict.{Lawful}
unfoldable use Rattle.origin_model.specs.operations.Verdict.{verdict}
unfoldable use Rattle.origin_model.specs.order.Order.{chain}
use Rattle.order_proof.specs.declared.step.Reason.{Reason}
use Rattle.order_proof.specs.declared.step.Reason.TheVariants.{End, Inner, Later}
use Rattle.order_proof.specs.declared.step.Step.{Step}
use Rattle.order_proof.specs.Certificates.{IsValid}
use Rattle.order_proof.specs.Checks.{test}
unfoldable use Rattle.order_proof.specs.Chains.{beside_up}
unfoldable use Rattle.order_proof.specs.Making.{certificate}
use Rattle.order_proof.proofs.CheckedLemmas.{tested}

abbrev id : ℕ → ℕ → Identifier
id replica counter = record { replica = replica; counter = counter }

abbrev at : ℕ → ℕ → Option Identifier
at replica counter = Some (id replica counter)

abbrev letter : Identifier → Option Identifier → Option Identifier → ℕ → Op
letter name left right ch = Text name (id 9 0) left right ch

-- B at the end of the text; A and D before B; X and Y after A, X before B and Y before D; newest first
abbrev concurrent : List Op
concurrent =
    letter (id 2 1) (at 1 1) (at 2 0) 89 ∷ letter (id 3 0) (at 1 1) (at 1 0) 88 ∷ letter (id 2 0) None (at 1 0) 68
    ∷ letter (id 1 1) None (at 1 0) 65 ∷ letter (id 1 0) None None 66 ∷ Section (id 9 0) None None (codes "T") ∷ []

is_lawful : Lawful concurrent
unfolding verdict
is_lawful = (refl, (refl, (refl, (refl, (refl, (refl, tt))))))

-- D before B
abbrev second : Reason → Step
second reason = record {
  x = id 2 0;
  y = id 1 0;
  down_x = id 2 0 ∷ [];
  down_y = id 1 0 ∷ [];
  right_x = id 1 0 ∷ id 2 0 ∷ [];
  right_y = id 1 0 ∷ [];
  reason = reason;
}

-- X before Y, since D stands before B
abbrev first : Step
first = record {
  x = id 3 0;
  y = id 2 1;
  down_x = id 3 0 ∷ [];
  down_y = id 2 1 ∷ [];
  right_x = id 3 0 ∷ [];
  right_y = id 2 1 ∷ [];
  reason = Later (id 1 0) (id 2 0);
}

-- it is valid, with another reason or without its last step it is not, and it is the one that is made
small_certificates :
    (test concurrent (first ∷ second Inner ∷ []) ≡ true) × (test concurrent (first ∷ second End ∷ []) ≡ false) × (test concurrent (first ∷ []) ≡ false)
    × (certificate concurrent (id 3 0) (id 2 1) ≡ first ∷ second Inner ∷ [])
unfolding certificate chain beside_up
small_certificates = (refl, refl, refl, refl)

small_is_valid : IsValid concurrent (first ∷ second Inner ∷ [])
small_is_valid = (tested concurrent is_lawful (first ∷ second Inner ∷ [])).0 small_certificates.0

-- its text
small_text :
    proof_text (first ∷ second Inner ∷ [])
    ≡ codes "claim 3.0 2.1" ++ 10 ∷ codes "down 3.0" ++ 10 ∷ codes "down 2.1" ++ 10 ∷ codes "right 3.0" ++ 10 ∷ codes "right 2.1" ++ 10 ∷ codes "later 1.0 2.0" ++ 10
    ∷ codes "claim 2.0 1.0" ++ 10 ∷ codes "down 2.0" ++ 10 ∷ codes "down 1.0" ++ 10 ∷ codes "right 1.0 2.0" ++ 10 ∷ codes "right 1.0" ++ 10 ∷ codes "inner" ++ 10 ∷ []
small_text =
    let a : decimal 0 ≡ 48 ∷ [] = decimal_digit 0 (omega arith) in
    let b : decimal 1 ≡ 49 ∷ [] = decimal_digit 1 (omega arith) in
    let c : decimal 2 ≡ 50 ∷ [] = decimal_digit 2 (omega arith) in
    let d : decimal 3 ≡ 51 ∷ [] = decimal_digit 3 (omega arith) in
    rw (a, b, c, d) refl
