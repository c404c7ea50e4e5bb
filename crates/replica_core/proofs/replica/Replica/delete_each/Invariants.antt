use Rattle.std.proofs.Common.{length, ◌-◌}
use Rattle.replica_core.proofs.DeletingLemmas.{IsDeletingEach}
use Rattle.replica_core.proofs.replica.Replica.delete_each.Given as goal

abbrev pub invariant-deleted : goal.invariant-deleted
invariant-deleted l = IsDeletingEach l.section l.initial.self l.self l.targets l.at

abbrev pub decreases-deleted : goal.decreases-deleted
decreases-deleted l = length l.targets - l.at
