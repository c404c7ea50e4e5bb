use Rattle.replica_core.proofs.RunLemmas.{IsPopping}
use Rattle.replica_core.proofs.history.History.pop_all.Given as goal

abbrev pub invariant-popped : goal.invariant-popped
invariant-popped l = IsPopping l.initial.self l.self l.initial.count l.left

abbrev pub decreases-popped : goal.decreases-popped
decreases-popped l = l.left
