use Rattle.op_runs.specs.Deletions.{deletes_up}
use Rattle.replica_file.proofs.LoadingLemmas.{feeds_dropped, run_feeds, run_refused, run_wants}
use Rattle.replica_file.proofs.loading.Loading.take_deletes.Goals as goal

pub returns-then-not-self-clause-feeds : goal.returns-then-not-self-clause-feeds
returns-then-not-self-clause-feeds c = feeds_dropped _ _ (deletes_up c.args.first c.args.count) c.if-not-self.true

pub returns-in-Ok-clause-feeds : goal.returns-in-Ok-clause-feeds
returns-in-Ok-clause-feeds c = run_feeds _ _ _ _ _ c.requires.ready _ c.if-not-self.false c.in-Ok.ensures.ok

pub returns-in-Err-TooMany-clause-feeds : goal.returns-in-Err-TooMany-clause-feeds
returns-in-Err-TooMany-clause-feeds c =
    run_refused _ _ _ _ _ c.requires.ready _ c.in-Err-TooMany.ensures.err c.in-Err-TooMany._most c.in-Err-TooMany.field-0-is _ c.if-not-self.false

pub returns-in-Err-NoMemory-clause-memory : goal.returns-in-Err-NoMemory-clause-memory
returns-in-Err-NoMemory-clause-memory c =
    run_wants _ _ _ _ _ c.requires.ready _ c.in-Err-NoMemory.ensures.err _ c.if-not-self.false c.in-Err-NoMemory.field-0-is
