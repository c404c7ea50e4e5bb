use Rattle.relay_core.proofs.OpLogLemmas.{logs_are_of_operations, logs_grow, replies_join}
use Rattle.relay_core.proofs.law.logs_only_grow.Goals as goal

pub returns-clause-operations : goal.returns-clause-operations
returns-clause-operations c = logs_are_of_operations

pub returns-clause-grow : goal.returns-clause-grow
returns-clause-grow c = logs_grow

pub returns-clause-join : goal.returns-clause-join
returns-clause-join c = replies_join
