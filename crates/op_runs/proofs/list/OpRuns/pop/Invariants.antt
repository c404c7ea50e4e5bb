use Rattle.std.proofs.Common.{◌≡◌, ◌≤◌, ◌-◌, length, take}
use Rattle.op_runs.proofs.list.OpRuns.pop.Given as goal

-- so many operations are gone, and the others are as they were
abbrev pub invariant-loop-left : goal.invariant-loop-left
invariant-loop-left l = (l.left ≤ l.count) × (l.self ≡ take (length l.initial.self - (l.count - l.left)) l.initial.self)

abbrev pub decreases-loop-left : goal.decreases-loop-left
decreases-loop-left l = l.left
