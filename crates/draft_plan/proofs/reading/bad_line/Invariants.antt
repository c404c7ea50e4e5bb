use Rattle.std.proofs.Common.{length, ◌+◌, ◌≡◌, ◌≤◌}
use Rattle.draft_plan.specs.Drafts.{first_bad, pieces}
use Rattle.draft_plan.proofs.reading.bad_line.Given as goal

abbrev pub invariant-lines : goal.invariant-lines
invariant-lines l = record {
  same : first_bad 1 (pieces l.draft) ≡ first_bad (l.before + 1) (pieces l.rest);
  few : l.before + length l.rest ≤ length l.draft;
}

abbrev pub decreases-lines : goal.decreases-lines
decreases-lines l = length l.rest
