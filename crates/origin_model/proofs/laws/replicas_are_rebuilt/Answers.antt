use Rattle.origin_model.proofs.taking.RebuiltLemmas.{repeats_change_nothing, replica_is_rebuilt}
use Rattle.origin_model.proofs.laws.replicas_are_rebuilt.Goals as goal

pub returns-clause-again : goal.returns-clause-again
returns-clause-again c = repeats_change_nothing

pub returns-clause-rebuilt : goal.returns-clause-rebuilt
returns-clause-rebuilt c = replica_is_rebuilt
