use Rattle.std.proofs.Common.{length}
use Rattle.command_kinds.proofs.CopyingLemmas.{IsCopying}
use Rattle.command_kinds.proofs.copying.take_copies.Given as goal

abbrev pub invariant-stretches : goal.invariant-stretches
invariant-stretches l = IsCopying l.fn.replica l.fn.tally l.fn.kept l.fn.ops l.replica l.tally l.kept l.rest

abbrev pub decreases-stretches : goal.decreases-stretches
decreases-stretches l = length l.rest
