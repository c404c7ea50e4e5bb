-- The text of a certificate, by its steps.
use Rattle.std.proofs.Common.{[], ap, refl, sym, ◌++◌, ◌∙◌, ◌∷◌, ◌≡◌}
use Rattle.std.specs.Prelude.{flat_map}
use Rattle.std.proofs.lemmas.List.{append-nil}
use Rattle.std.proofs.lemmas.Grind.{flat_map-append}
use Rattle.order_proof.specs.declared.step.Step.{Step}
use Rattle.order_proof.specs.Certificates.{Certificate}
use Rattle.order_proof.specs.Texts.{chain_lines, proof_line_text, proof_lines, proof_text, reason_line, step_lines, step_text}

-- the lines of a step, one after the other
step_written : (s : Step) → step_text s ≡ flat_map proof_line_text (step_lines s)
step_written s =
    ap (λ z. flat_map proof_line_text (chain_lines s s.reason) ++ z) (sym (append-nil (proof_line_text (reason_line s.reason))))
    ∙ sym (flat_map-append proof_line_text (chain_lines s s.reason) (reason_line s.reason ∷ []))

pub by_steps : (c : Certificate) → flat_map step_text c ≡ proof_text c
by_steps [] = refl
by_steps (s ∷ c) = (λ i. step_written s i ++ by_steps c i) ∙ sym (flat_map-append proof_line_text (step_lines s) (proof_lines c))
