use Rattle.std.specs.Prelude.{◌≤◌, ◌-◌}
use Rattle.replica_core.specs.Feeding.{AreUntouched}
use Rattle.replica_core.proofs.open_replica.OpenReplica.untouched.Given as goal

abbrev pub invariant-doubled : goal.invariant-doubled
invariant-doubled l = AreUntouched l.self.state.held l.first l.known × (l.known ≤ l.count) × (1 ≤ l.next)

abbrev pub decreases-doubled : goal.decreases-doubled
decreases-doubled l = l.count - l.next
