use Rattle.std.proofs.Common.{arith, length, ◌<◌, ◌≤◌}
use Rattle.std.proofs.lemmas.Result.{err_from_is_err_and}
use Rattle.order_proof.proofs.LineLemmas.{passed_on}
use Rattle.order_proof.proofs.StepsLemmas.{next_step, no_text, read_as, read_step_more}
use Rattle.order_proof.proofs.reading.read_steps.Goals as goal

pub returns-then-is_empty-clause-every : goal.returns-then-is_empty-clause-every
returns-then-is_empty-clause-every c d p = let none : length c.args.text.now ≤ 0 = grind arith in no_text c.args.text.now none d p

pub returns-in_err-read_step-clause-every : goal.returns-in_err-read_step-clause-every
returns-in_err-read_step-clause-every c d p =
    let some : 0 < length c.steps.lines.rest.now = grind arith in
    let k = next_step c.args.text.now c.steps.lines.rest.now c.steps.steps.items c.steps.invariant some d p in
    passed_on c.from_residual.result c.in_err-read_step.field-0.0 _ (err_from_is_err_and c.from_residual.result c.from_residual.ensures.1)
    (c.in_err-read_step.ensures.every k.0 k.1 k.2 k.3)

pub steps-preserved : goal.steps-preserved
steps-preserved c =
    rw c.in_ok-push.ensures.items
    (read_step_more c.args.text.now c.steps.lines.rest.now c.read_step.new.self.rest.now c.steps.steps.items c.in_ok-read_step.field-0 c.steps.invariant
    c.in_ok-read_step.ensures.lines
    (λ t more q e. c.in_ok-read_step.ensures.every t more q e))

pub returns-clause-every : goal.returns-clause-every
returns-clause-every c d p =
    let none : length c.steps.lines.rest.now ≤ 0 = grind arith in
    read_as c.args.text.now c.steps.lines.rest.now c.steps.steps.items c.steps.invariant none d p
