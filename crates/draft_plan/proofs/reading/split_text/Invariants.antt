use Rattle.std.proofs.Common.{length}
use Rattle.draft_plan.proofs.PartLemmas.{IsPassed}
use Rattle.draft_plan.proofs.reading.split_text.Given as goal

abbrev pub invariant-lines : goal.invariant-lines
invariant-lines l = IsPassed l.draft l.rest

abbrev pub decreases-lines : goal.decreases-lines
decreases-lines l = length l.rest
