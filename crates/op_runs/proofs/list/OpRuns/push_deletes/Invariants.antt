use Rattle.std.proofs.Common.{◌≡◌, ◌≤◌, ◌-◌, ◌++◌, false}
use Rattle.op_runs.specs.Deletions.{deletes_by}
use Rattle.op_runs.proofs.list.OpRuns.push_deletes.Given as goal

-- so many Deletes came
abbrev pub invariant-pushed : goal.invariant-pushed
invariant-pushed l = (l.done ≤ l.count) × (l.self ≡ l.initial.self ++ deletes_by false l.fn.first l.done)

abbrev pub decreases-pushed : goal.decreases-pushed
decreases-pushed l = l.count - l.done
