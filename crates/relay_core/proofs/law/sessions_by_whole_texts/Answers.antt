use Rattle.relay_core.proofs.TellingLemmas.{sessions_by_whole_texts}
use Rattle.relay_core.proofs.law.sessions_by_whole_texts.Goals as goal

pub returns : goal.returns
returns c = sessions_by_whole_texts
