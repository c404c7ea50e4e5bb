use Rattle.relay_core.proofs.KindLemmas.{events_come_once}
use Rattle.relay_core.proofs.law.events_come_once.Goals as goal

pub returns : goal.returns
returns c = events_come_once
