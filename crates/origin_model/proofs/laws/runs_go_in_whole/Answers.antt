use Rattle.origin_model.proofs.edits.RunLemmas.{runs_go_in_whole, typed_is_run}
use Rattle.origin_model.proofs.laws.runs_go_in_whole.Goals as goal

pub returns-clause-whole : goal.returns-clause-whole
returns-clause-whole c = runs_go_in_whole

pub returns-clause-typed : goal.returns-clause-typed
returns-clause-typed c = typed_is_run
