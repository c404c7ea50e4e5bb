use Rattle.std.specs.Prelude.{length}
use Rattle.fugue_ids.specs.Runs.{run_from}
use Rattle.replica_core.proofs.FeedingLemmas.{IsFeeding}
use Rattle.replica_core.proofs.open_replica.OpenReplica.feed_run.Given as goal

abbrev pub invariant-fronts : goal.invariant-fronts
invariant-fronts l = IsFeeding l.initial.self.state l.initial.tally (run_from l.start l.text) l.self.state l.tally l.next l.rest

abbrev pub decreases-fronts : goal.decreases-fronts
decreases-fronts l = length l.rest
