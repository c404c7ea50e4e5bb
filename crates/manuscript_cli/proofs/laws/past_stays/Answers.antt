use Rattle.manuscript_cli.proofs.PastLemmas.{past_is_arranged, past_stays}
use Rattle.manuscript_cli.proofs.laws.past_stays.Goals as goal

pub returns-clause-arranged : goal.returns-clause-arranged
returns-clause-arranged c = past_is_arranged

pub returns-clause-stays : goal.returns-clause-stays
returns-clause-stays c = past_stays
