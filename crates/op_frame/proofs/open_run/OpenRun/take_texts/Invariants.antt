use Rattle.std.proofs.Common.{List, length, ◌++◌, ◌+◌, ◌<◌, ◌^◌, ◌≡◌, ◌≤◌}
use Rattle.fugue_ids.specs.Runs.{run_from}
use Rattle.fugue_ids.specs.declared.op.Op.{Op}
use Rattle.op_frame.specs.OpenRuns.{OpenRunFits, TakesInOps, open_ops}
use Rattle.op_frame.proofs.open_run.OpenRun.take_texts.Given as goal

abbrev pub invariant-texts : goal.invariant-texts
invariant-texts l = record {
  done : List Op;
  whole : run_from l.fn.start l.fn.text ≡ done ++ run_from l.next l.rest;
  takes : TakesInOps (open_ops l.fn.self.start l.fn.self.text.items) (open_ops l.self.start l.self.text.items) l.fn.out.items l.out.items done;
  is_open : OpenRunFits l.self.start l.self.text.items;
  counters : 0 < length l.rest → l.next.id.counter + length l.rest ≤ 2 ^ 32;
}

abbrev pub decreases-texts : goal.decreases-texts
decreases-texts l = length l.rest
