use Rattle.std.proofs.Common.{length}
use Rattle.replica_core.proofs.CountLemmas.{IsSettling}
use Rattle.replica_core.proofs.open_replica.OpenReplica.settle.Given as goal

abbrev pub invariant-loop : goal.invariant-loop
invariant-loop l = IsSettling l.initial.self.state l.self.state l.initial.tally l.tally

abbrev pub decreases-loop : goal.decreases-loop
decreases-loop l = length l.self.state.held.waiting
