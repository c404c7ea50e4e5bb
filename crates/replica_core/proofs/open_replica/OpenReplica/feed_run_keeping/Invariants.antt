use Rattle.std.specs.Prelude.{length}
use Rattle.fugue_ids.specs.Runs.{run_from}
use Rattle.replica_core.proofs.FeedingLemmas.{IsKeeping}
use Rattle.replica_core.proofs.open_replica.OpenReplica.feed_run_keeping.Given as goal

abbrev pub invariant-fronts : goal.invariant-fronts
invariant-fronts l = IsKeeping l.initial.self.state l.initial.tally l.initial.kept (run_from l.start l.text) l.self.state l.tally l.kept l.next l.rest

abbrev pub decreases-fronts : goal.decreases-fronts
decreases-fronts l = length l.rest
