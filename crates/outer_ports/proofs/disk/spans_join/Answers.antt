use Rattle.outer_ports.proofs.disk.MomentsLemmas.{spans_join, since_now}
use Rattle.outer_ports.proofs.disk.spans_join.Goals as goal

pub returns-clause-joins : goal.returns-clause-joins
returns-clause-joins c = spans_join

pub returns-clause-now : goal.returns-clause-now
returns-clause-now c = since_now
