use Rattle.origin_model.proofs.taking.ClosureLawLemmas.{closure_by_set, closure_of_merge, closure_of_set, closure_of_union, same_set_converges}
use Rattle.origin_model.proofs.taking.ClosureLemmas.{closure_is}
use Rattle.origin_model.proofs.laws.closure_of_set.Goals as goal

pub returns-clause-closure : goal.returns-clause-closure
returns-clause-closure c = closure_of_set

pub returns-clause-closed : goal.returns-clause-closed
returns-clause-closed c = closure_is

pub returns-clause-closure_by_set : goal.returns-clause-closure_by_set
returns-clause-closure_by_set c = closure_by_set

pub returns-clause-same_set : goal.returns-clause-same_set
returns-clause-same_set c = same_set_converges

pub returns-clause-union : goal.returns-clause-union
returns-clause-union c = closure_of_union

pub returns-clause-merge : goal.returns-clause-merge
returns-clause-merge c = closure_of_merge
