use Rattle.std.proofs.Common.{length, ◌≤◌}
use Rattle.std.specs.Prelude.{None}
use Rattle.relay_core.specs.Joins.{JoinsAll}
use Rattle.relay_core.specs.Logs.{LogGrows, frames_in}
use Rattle.relay_core.proofs.joining.join_rest.Given as goal

-- the operations so far joined, and those that are left follow
abbrev pub invariant-ops : goal.invariant-ops
invariant-ops g l = record {
  joins : JoinsAll l.limit (frames_in l.fn.log) l.fn.left (frames_in l.log) l.left None;
  grows : LogGrows (frames_in l.fn.log) (frames_in l.log);
  within : length (frames_in l.log) ≤ l.limit;
}

abbrev pub decreases-ops : goal.decreases-ops
decreases-ops g l = length l.left
