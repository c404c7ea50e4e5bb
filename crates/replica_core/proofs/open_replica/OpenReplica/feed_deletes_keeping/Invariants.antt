use Rattle.std.specs.Prelude.{◌-◌}
use Rattle.replica_core.proofs.DeletesFeedingLemmas.{IsKeepingRow}
use Rattle.replica_core.proofs.open_replica.OpenReplica.feed_deletes_keeping.Given as goal

abbrev pub invariant-fronts : goal.invariant-fronts
invariant-fronts l = IsKeepingRow l.initial.self.state l.initial.tally l.initial.kept l.first l.count l.self.state l.tally l.kept l.done

abbrev pub decreases-fronts : goal.decreases-fronts
decreases-fronts l = l.count - l.done
