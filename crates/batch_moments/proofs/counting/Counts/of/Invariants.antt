use Rattle.std.proofs.Common.{List, drop, length, take, ◌++◌, ◌+◌, ◌≡◌, ◌≤◌}
use Rattle.fugue_ids.specs.declared.op.Op.{Op}
use Rattle.batch_moments.specs.Steps.{AreOf}
use Rattle.batch_moments.proofs.counting.Counts.of.Given as goal

abbrev pub invariant-ops : goal.invariant-ops
invariant-ops l = record {
  done : List Op;
  are : AreOf done l.counts;
  counted : length done + l.left ≤ l.fn.count;
  front : take l.fn.count l.fn.ops ≡ done ++ take l.left l.ops;
  rest : drop l.fn.count l.fn.ops ≡ drop l.left l.ops;
}

abbrev pub decreases-ops : goal.decreases-ops
decreases-ops l = l.left
