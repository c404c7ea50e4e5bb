use Rattle.origin_model.proofs.SharedLemmas.{state_after}
use Rattle.relay_core.proofs.relay.Relay.step.Goals as goal

pub returns-in-Ok-clause-state : goal.returns-in-Ok-clause-state
returns-in-Ok-clause-state g c = λ events is. state_after _ events _ _ c.args.event c.in-Ok.ensures.ok.reply is c.in-Ok.ensures.ok.steps
