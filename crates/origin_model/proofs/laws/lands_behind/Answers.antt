use Rattle.origin_model.proofs.edits.LandsBehindLemmas.{lands_behind, lands_behind_origin}
use Rattle.origin_model.proofs.edits.LandsBehindLeafLemmas.{lands_behind_leaf, lands_behind_newest}
use Rattle.origin_model.proofs.edits.RunLemmas.{run_lands}
use Rattle.origin_model.proofs.laws.lands_behind.Goals as goal

pub returns-clause-between : goal.returns-clause-between
returns-clause-between c = lands_behind

pub returns-clause-by_origin : goal.returns-clause-by_origin
returns-clause-by_origin c = lands_behind_origin

pub returns-clause-leaf : goal.returns-clause-leaf
returns-clause-leaf c = lands_behind_leaf

pub returns-clause-newest : goal.returns-clause-newest
returns-clause-newest c = lands_behind_newest

pub returns-clause-run : goal.returns-clause-run
returns-clause-run c = run_lands
