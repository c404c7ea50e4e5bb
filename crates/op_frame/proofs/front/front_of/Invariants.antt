use Rattle.std.proofs.Common.{length, take, ◌-◌, ◌≤◌}
use Rattle.op_frame.specs.FrameFronts.{Awaits}
use Rattle.op_frame.proofs.front.front_of.Given as goal

abbrev pub invariant-fields : goal.invariant-fields
invariant-fields l = (l.at ≤ length l.bytes) × Awaits l.fn.grammar l.due (take l.at l.bytes) 0

abbrev pub decreases-fields : goal.decreases-fields
decreases-fields l = length l.bytes - l.at
