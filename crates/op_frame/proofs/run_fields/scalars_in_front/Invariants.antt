use Rattle.std.proofs.Common.{take, ◌*◌, ◌-◌, ◌≤◌}
use Rattle.op_frame.specs.FrameFronts.{LeavesDue, scalars_due}
use Rattle.op_frame.specs.declared.due.Due.TheVariants.{Fields}
use Rattle.op_frame.specs.declared.due.Last.TheVariants.{Scalars}
use Rattle.op_frame.proofs.run_fields.scalars_in_front.Given as goal

abbrev pub invariant-scalars : goal.invariant-scalars
invariant-scalars l =
    (l.passed ≤ l.whole) × LeavesDue (take (3 * l.passed) l.bytes) (Fields 0 0 (Scalars l.most)) (scalars_due (l.most - l.passed))

abbrev pub decreases-scalars : goal.decreases-scalars
decreases-scalars l = l.whole - l.passed
