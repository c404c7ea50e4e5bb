use Rattle.std.specs.Prelude.{◌-◌}
use Rattle.replica_core.proofs.DeletesFeedingLemmas.{IsFeedingRow}
use Rattle.replica_core.proofs.open_replica.OpenReplica.feed_deletes.Given as goal

abbrev pub invariant-fronts : goal.invariant-fronts
invariant-fronts l = IsFeedingRow l.initial.self.state l.initial.tally l.first l.count l.self.state l.tally l.done

abbrev pub decreases-fronts : goal.decreases-fronts
decreases-fronts l = l.count - l.done
