use Rattle.std.proofs.Common.{drop}
use Rattle.op_runs.specs.Deletions.{deletes_down}
use Rattle.command_kinds.proofs.CopyingLemmas.{IsCopying}
use Rattle.command_kinds.proofs.copying.take_backwards.Given as goal

abbrev pub invariant-loop-offset : goal.invariant-loop-offset
invariant-loop-offset l =
    IsCopying l.fn.replica l.fn.tally l.fn.kept (deletes_down l.fn.target l.fn.count) l.replica l.tally l.kept
    (drop l.offset (deletes_down l.fn.target l.fn.count))
