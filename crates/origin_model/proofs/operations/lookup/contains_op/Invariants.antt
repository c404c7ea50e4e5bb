use Rattle.origin_model.proofs.Words.{has_op, length, reverse, take, ◌≡◌, ◌≤◌}
use Rattle.origin_model.proofs.operations.lookup.contains_op.Given as goal

abbrev pub invariant-scan : goal.invariant-scan
invariant-scan l = record { rest : has_op (reverse (take l.i l.ops)) l.op ≡ has_op (reverse l.ops) l.op; within : l.i ≤ length l.ops }

abbrev pub decreases-scan : goal.decreases-scan
decreases-scan l = l.i
