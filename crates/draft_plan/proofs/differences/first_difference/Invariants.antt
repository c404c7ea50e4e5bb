use Rattle.std.proofs.Common.{length, ◌-◌}
use Rattle.draft_plan.proofs.DifferenceLemmas.{IsCommonTo}
use Rattle.draft_plan.proofs.differences.first_difference.Given as goal

abbrev pub invariant-bytes : goal.invariant-bytes
invariant-bytes l = IsCommonTo l.old l.new l.at

abbrev pub decreases-bytes : goal.decreases-bytes
decreases-bytes l = length l.old - l.at
