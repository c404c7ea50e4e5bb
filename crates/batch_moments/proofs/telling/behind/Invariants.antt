use Rattle.std.proofs.Common.{drop, ◌≡◌}
use Rattle.batch_moments.proofs.telling.behind.Given as goal

abbrev pub invariant-passed : goal.invariant-passed
invariant-passed l = drop l.left l.rest ≡ drop l.fn.count l.fn.ops

abbrev pub decreases-passed : goal.decreases-passed
decreases-passed l = l.left
