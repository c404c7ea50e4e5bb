use Rattle.std.proofs.Common.{List, [], length, ◌++◌, ◌≡◌}
use Rattle.fugue_ids.specs.declared.op.Op.{Op}
use Rattle.op_frame.specs.OpenRuns.{OpenRunFits, TakesInOps, open_ops}
use Rattle.op_frame.proofs.encodings.encode_stretches.Given as goal

abbrev pub invariant-stretches : goal.invariant-stretches
invariant-stretches l = record {
  done : List Op;
  whole : l.fn.ops ≡ done ++ l.rest;
  takes : TakesInOps [] (open_ops l.run.start l.run.text.items) l.fn.out.items l.out.items done;
  is_open : OpenRunFits l.run.start l.run.text.items;
}

abbrev pub decreases-stretches : goal.decreases-stretches
decreases-stretches l = length l.rest
