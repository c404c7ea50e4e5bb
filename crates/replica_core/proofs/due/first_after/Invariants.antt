use Rattle.std.proofs.Common.{◌-◌, ◌≤◌, length}
use Rattle.replica_core.specs.Due.{IsClearBefore}
use Rattle.replica_core.proofs.due.first_after.Given as goal

abbrev pub invariant-stretches : goal.invariant-stretches
invariant-stretches l = record {
  within : l.passed ≤ length l.marks.items;
  front : IsClearBefore l.passed l.marks.items;
}

abbrev pub decreases-stretches : goal.decreases-stretches
decreases-stretches l = length l.marks.items - l.passed
