use Rattle.std.proofs.Common.{List, ap, refl, sym, ◌++◌, ◌∙◌, ℕ}
use Rattle.std.proofs.lemmas.Result.{err_from_is_err_and}
use Rattle.std.specs.Prelude.{codes}
use Rattle.order_proof.specs.declared.step.Step.{Step}
use Rattle.order_proof.specs.Texts.{proof_line_text, reason_line, word_with_ids}
use Rattle.order_proof.proofs.LineLemmas.{fine_four, four_fine, passed_on, siblings_split}
use Rattle.order_proof.proofs.text_parts.Unread.read_sibling_step.Goals as goal

pub returns-in_err-down_y-clause-every : goal.returns-in_err-down_y-clause-every
returns-in_err-down_y-clause-every c s more p x y d n e =
    let f = four_fine s p in
    let rest : List ℕ = word_with_ids (codes "right") s.right_x ++ (word_with_ids (codes "right") s.right_y ++ (proof_line_text (reason_line s.reason) ++ more)) in
    passed_on c.from_residual.result c.in_err-down_y.field-0.0 _ (err_from_is_err_and c.from_residual.result c.from_residual.ensures.1)
    (c.in_err-down_y.ensures.every s.down_y rest f.0 (e ∙ siblings_split s more))

pub returns-in_err-right_x-clause-every : goal.returns-in_err-right_x-clause-every
returns-in_err-right_x-clause-every c s more p x y d n e =
    let f = four_fine s p in
    let rest : List ℕ = word_with_ids (codes "right") s.right_y ++ (proof_line_text (reason_line s.reason) ++ more) in
    let one = c.in_ok-down_y.ensures.every s.down_y (word_with_ids (codes "right") s.right_x ++ rest) f.0 (e ∙ siblings_split s more) in
    passed_on c.from_residual-in_err-right_x.result c.in_err-right_x.field-0.0 _
    (err_from_is_err_and c.from_residual-in_err-right_x.result c.from_residual-in_err-right_x.ensures.1)
    (c.in_err-right_x.ensures.every s.right_x rest f.1 one.1)

pub returns-in_err-right_y-clause-every : goal.returns-in_err-right_y-clause-every
returns-in_err-right_y-clause-every c s more p x y d n e =
    let f = four_fine s p in
    let rest : List ℕ = proof_line_text (reason_line s.reason) ++ more in
    let one = c.in_ok-down_y.ensures.every s.down_y (word_with_ids (codes "right") s.right_x ++ (word_with_ids (codes "right") s.right_y ++ rest)) f.0
    (e ∙ siblings_split s more) in
    let two = c.in_ok-right_x.ensures.every s.right_x (word_with_ids (codes "right") s.right_y ++ rest) f.1 one.1 in
    passed_on c.from_residual-in_err-right_y.result c.in_err-right_y.field-0.0 _
    (err_from_is_err_and c.from_residual-in_err-right_y.result c.from_residual-in_err-right_y.ensures.1)
    (c.in_err-right_y.ensures.every s.right_y rest f.2 two.1)

pub returns-in_err-reason-clause-every : goal.returns-in_err-reason-clause-every
returns-in_err-reason-clause-every c s more p x y d n e =
    let f = four_fine s p in
    let rest : List ℕ = proof_line_text (reason_line s.reason) ++ more in
    let one = c.in_ok-down_y.ensures.every s.down_y (word_with_ids (codes "right") s.right_x ++ (word_with_ids (codes "right") s.right_y ++ rest)) f.0
    (e ∙ siblings_split s more) in
    let two = c.in_ok-right_x.ensures.every s.right_x (word_with_ids (codes "right") s.right_y ++ rest) f.1 one.1 in
    let three = c.in_ok-right_y.ensures.every s.right_y rest f.2 two.1 in
    passed_on c.from_residual-in_err-reason.result c.in_err-reason.field-0.0 _ (err_from_is_err_and c.from_residual-in_err-reason.result c.from_residual-in_err-reason.ensures.1)
    (c.in_err-reason.ensures.every s.reason more f.3 n three.1)

pub returns-clause-lines : goal.returns-clause-lines
returns-clause-lines c =
    let s : Step = record {
      x = c.args.x;
      y = c.args.y;
      down_x = c.args.down_x;
      down_y = c.in_ok-down_y.down_y;
      right_x = c.in_ok-right_x.right_x;
      right_y = c.in_ok-right_y.right_y;
      reason = c.in_ok-reason.reason;
    } in
    let one = c.in_ok-down_y.ensures.line in
    let two = c.in_ok-right_x.ensures.line in
    let three = c.in_ok-right_y.ensures.line in
    let four = c.in_ok-reason.ensures.line in
    let rest : List ℕ = c.read_reason.new.self.rest.now in
    let written = one.0 ∙ ap (λ z. word_with_ids (codes "down") s.down_y ++ z)
    (two.0 ∙ ap (λ z. word_with_ids (codes "right") s.right_x ++ z) (three.0 ∙ ap (λ z. word_with_ids (codes "right") s.right_y ++ z) four.0)) ∙ sym (siblings_split s rest) in
    (written, fine_four s one.1 two.1 three.1 four.1, refl, refl, refl, four.2)

pub returns-clause-every : goal.returns-clause-every
returns-clause-every c s more p x y d n e =
    let f = four_fine s p in
    let rest : List ℕ = proof_line_text (reason_line s.reason) ++ more in
    let one = c.in_ok-down_y.ensures.every s.down_y (word_with_ids (codes "right") s.right_x ++ (word_with_ids (codes "right") s.right_y ++ rest)) f.0
    (e ∙ siblings_split s more) in
    let two = c.in_ok-right_x.ensures.every s.right_x (word_with_ids (codes "right") s.right_y ++ rest) f.1 one.1 in
    let three = c.in_ok-right_y.ensures.every s.right_y rest f.2 two.1 in
    let four = c.in_ok-reason.ensures.every s.reason more f.3 n three.1 in
    ((λ i. record { x = sym x i; y = sym y i; down_x = sym d i; down_y = one.0 i; right_x = two.0 i; right_y = three.0 i; reason = four.0 i }), four.1)
