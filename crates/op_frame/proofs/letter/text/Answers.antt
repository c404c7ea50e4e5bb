use Rattle.op_frame.proofs.LetterLemmas.{from_id, from_right, from_scalar, from_section, starts}
use Rattle.op_frame.proofs.letter.text.Goals as goal

pub returns-in_err-id-clause-none : goal.returns-in_err-id-clause-none
returns-in_err-id-clause-none c = rw c.from_residual.ensures (λ t. c.in_err-id.ensures.none (starts _ (from_id _ t)))

pub returns-in_err-section-clause-none : goal.returns-in_err-section-clause-none
returns-in_err-section-clause-none c =
    let id = c.in_ok-id.ensures in
    rw c.from_residual-in_err-section.ensures (λ t. c.in_err-section.ensures.none (starts _ (from_section _ t _ _ id.is id.split)))

pub returns-in_err-right-clause-none : goal.returns-in_err-right-clause-none
returns-in_err-right-clause-none c =
    let id = c.in_ok-id.ensures in
    let section = c.in_ok-section.ensures in
    let left = c.in_ok-left.ensures in
    rw c.from_residual-in_err-right.ensures
    (λ t. c.in_err-right.ensures.none (starts _ (from_right _ t _ _ id.is id.split _ _ section.is section.split _ _ left.is left.split)))

pub returns-in_err-ch-clause-none : goal.returns-in_err-ch-clause-none
returns-in_err-ch-clause-none c =
    let id = c.in_ok-id.ensures in
    let section = c.in_ok-section.ensures in
    let left = c.in_ok-left.ensures in
    let right = c.in_ok-right.ensures in
    rw c.from_residual-in_err-ch.ensures
    (λ t. c.in_err-ch.ensures.none (from_scalar _ t _ _ id.is id.split _ _ section.is section.split _ _ left.is left.split _ _ right.is right.split))
