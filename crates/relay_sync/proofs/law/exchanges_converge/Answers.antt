use Rattle.relay_sync.proofs.ExchangeLemmas.{hearers_converge, hearers_have_the_closure, logs_are_what_was_sent}
use Rattle.relay_sync.proofs.law.exchanges_converge.Goals as goal

pub returns-clause-log : goal.returns-clause-log
returns-clause-log c = logs_are_what_was_sent

pub returns-clause-closure : goal.returns-clause-closure
returns-clause-closure c = hearers_have_the_closure c.closure_of_set.ensures.union

pub returns-clause-converge : goal.returns-clause-converge
returns-clause-converge c = hearers_converge c.closure_of_set.ensures.union c.closure_of_set.ensures.closure_by_set c.order_by_set.ensures
