use Rattle.op_frame.proofs.LetterLemmas.{delete_fields}
use Rattle.op_frame.proofs.letter.delete.Goals as goal

pub returns-in_err-target-clause-none : goal.returns-in_err-target-clause-none
returns-in_err-target-clause-none c = rw c.from_residual.ensures (λ t. c.in_err-target.ensures.none (delete_fields _ t))
