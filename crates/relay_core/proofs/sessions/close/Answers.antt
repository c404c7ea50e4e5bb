use Rattle.relay_core.proofs.SessionLemmas.{sessions-removed}
use Rattle.relay_core.proofs.sessions.close.Goals as goal

pub returns : goal.returns
returns c = sessions-removed c.args.sessions.now c.remove.new.self c.args.n c.remove.ensures.updates
