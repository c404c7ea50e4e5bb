use Rattle.std.proofs.Common.{List, ap, subst, ℕ, ◌∙◌}
use Rattle.std.specs.Prelude.{Err, Ok, flat_map}
use Rattle.std.proofs.lemmas.List.{take_all}
use Rattle.std.proofs.lemmas.Result.{err_from_is_err_and}
use Rattle.fugue_ids.specs.Outs.{WritesBytes}
use Rattle.fugue_ids.specs.declared.out.Failed.{Failed}
use Rattle.fugue_ids.proofs.JoinLemmas.{parts_grow, parts_stop}
use Rattle.order_proof.specs.declared.step.Step.{Step}
use Rattle.order_proof.specs.Texts.{step_text}
use Rattle.order_proof.proofs.WritingLemmas.{by_steps}
use Rattle.order_proof.proofs.writing.write_steps.Goals as goal

pub steps-preserved : goal.steps-preserved
steps-preserved g c =
    let written = subst (λ (z : Step). WritesBytes {E = Failed} {T = Unit {0}} (g.O.Out.seen c.steps.out) (g.O.Out.seen c.write_step.new.out) (Ok tt) (step_text z)) c.step-item.is
    c.in_ok-write_step.ensures in
    parts_grow step_text c.args.steps.now c.steps.step-index c.step-item.result tt tt _ _ _ c.steps-test.true c.steps.invariant written

pub returns-in_err-write_step : goal.returns-in_err-write_step
returns-in_err-write_step g c =
    let p = err_from_is_err_and c.from_residual.result c.from_residual.ensures.1 in
    let failed = subst (λ (z : Step). WritesBytes {E = Failed} {T = Unit {0}} (g.O.Out.seen c.steps.out) (g.O.Out.seen c.write_step.new.out) (Err c.in_err-write_step.field-0.0)
    (step_text z)) c.step-item.is c.in_err-write_step.ensures in
    let stopped = parts_stop step_text c.args.steps.now c.steps.step-index c.step-item.result _ tt _ _ _ c.steps-test.true c.steps.invariant failed in
    rw p.1 (subst (λ (t : List ℕ). WritesBytes {E = Failed} {T = Unit {0}} (g.O.Out.seen c.args.out.now) (g.O.Out.seen c.write_step.new.out) (Err c.in_err-write_step.field-0.0) t)
    (by_steps c.args.steps.now) stopped)

pub returns : goal.returns
returns g c =
    let all = ap (flat_map step_text) (take_all c.steps.step-index c.args.steps.now c.steps-test.false) ∙ by_steps c.args.steps.now in
    subst (λ (t : List ℕ). WritesBytes {E = Failed} {T = Unit {0}} (g.O.Out.seen c.args.out.now) (g.O.Out.seen c.steps.out) (Ok tt) t) all c.steps.invariant
