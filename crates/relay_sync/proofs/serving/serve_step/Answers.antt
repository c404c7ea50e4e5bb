use Rattle.std.proofs.Common.{arith, refl, subst, ◌∙◌}
use Rattle.std.proofs.lemmas.Result.{err_from_is_err_and}
use Rattle.origin_model.specs.relay.Relay.{RelaySteps}
use Rattle.relay_sync.specs.Serving.{with_closed}
use Rattle.relay_sync.specs.declared.serving.ServeFault.TheVariants.{NoMemory}
use Rattle.relay_sync.proofs.ServingLemmas.{reply_stops, turn_serves, turn_stops, unheard_stops}
use Rattle.relay_sync.proofs.serving.serve_step.Goals as goal

pub returns-in_err-step-clause-partly : goal.returns-in_err-step-clause-partly
returns-in_err-step-clause-partly g c =
    let p = err_from_is_err_and c.from_residual.result c.from_residual.ensures.1 in
    rw (p.1, p.2) (unheard_stops _ _ _ _ _ c.in_err-step.ensures.err.0 refl c.in_err-step.ensures.err.1 c.in_err-step.ensures.err.2 c.in_err-step.ensures.err.3)

pub returns-in_default-clause-partly : goal.returns-in_default-clause-partly
returns-in_default-clause-partly g c = unheard_stops NoMemory _ _ _ _ _ c.in_default.ensures.unchanged c.in_ok-step.ensures.ok (omega arith) c.in_ok-step.ensures.counts_no_fault

pub returns-in_err-answer-clause-partly : goal.returns-in_err-answer-clause-partly
returns-in_err-answer-clause-partly g c =
    let p = err_from_is_err_and c.from_residual-in_err-answer.result c.from_residual-in_err-answer.ensures.1 in
    let s = c.in-Ok.ensures.ok in
    rw (p.1, p.2) (reply_stops _ _ _ _ _ _ c.in_ok-step.step s.reply c.in_ok-step.ensures.ok c.in_ok-step.ensures.counts_no_fault
    (subst (λ e. RelaySteps c.args.relay.now e c.step.new.self s.reply) c.event_of.ensures s.steps)
    (c.in_err-answer.ensures.partly s.reply (c.deref.ensures.value ∙ s.replies_are)))

pub returns-in_default-note_gone-clause-partly : goal.returns-in_default-note_gone-clause-partly
returns-in_default-note_gone-clause-partly g c =
    let s = c.in-Ok.ensures.ok in
    turn_stops NoMemory _ _ _ _ _ (λ is. cc is)
    (turn_serves _ _ _ _ _ c.in_ok-step.step s.reply c.in_ok-step.ensures.ok c.in_ok-step.ensures.counts_no_fault
    (subst (λ e. RelaySteps c.args.relay.now e c.step.new.self s.reply) c.event_of.ensures s.steps)
    (c.in_ok-answer.ensures.ok s.reply (c.deref.ensures.value ∙ s.replies_are)).0)

pub returns-clause-ok : goal.returns-clause-ok
returns-clause-ok g c =
    let s = c.in-Ok.ensures.ok in
    let answered = c.in_ok-answer.ensures.ok s.reply (c.deref.ensures.value ∙ s.replies_are) in (
      record { step = c.in_ok-step.step; reply = s.reply },
      turn_serves _ _ _ _ _ c.in_ok-step.step s.reply c.in_ok-step.ensures.ok c.in_ok-step.ensures.counts_no_fault
          (subst (λ e. RelaySteps c.args.relay.now e c.step.new.self s.reply) c.event_of.ensures s.steps) answered.0,
      λ sessions is. rw (c.gone_by-gone.ensures (with_closed sessions s.reply)) (c.in-Ok-note_gone.ensures (with_closed sessions s.reply) (answered.1 sessions is)),
    )
