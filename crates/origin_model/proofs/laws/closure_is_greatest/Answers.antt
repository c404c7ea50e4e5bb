use Rattle.origin_model.proofs.taking.RepeatLemmas.{accepted_is_in_closure, closure_is_greatest, closure_is_monotone, quiet_pass_is_last}
use Rattle.origin_model.proofs.laws.closure_is_greatest.Goals as goal

pub returns-clause-greatest : goal.returns-clause-greatest
returns-clause-greatest c = closure_is_greatest

pub returns-clause-monotone : goal.returns-clause-monotone
returns-clause-monotone c = closure_is_monotone

pub returns-clause-accepted : goal.returns-clause-accepted
returns-clause-accepted c = accepted_is_in_closure

pub returns-clause-last : goal.returns-clause-last
returns-clause-last c = quiet_pass_is_last
