use Rattle.origin_model.proofs.Words.{drop, length, ◌-◌, ◌≡◌, ◌≤◌}
use Rattle.origin_model.specs.order.Fork.{fork_of}
use Rattle.origin_model.proofs.order.comparison.first_fork.Given as goal

abbrev pub invariant-scan : goal.invariant-scan
invariant-scan l = record { rest : fork_of (drop l.i l.xs) (drop l.i l.ys) ≡ fork_of l.xs l.ys; in_first : l.i ≤ length l.xs; in_second : l.i ≤ length l.ys }

abbrev pub decreases-scan : goal.decreases-scan
decreases-scan l = length l.xs - l.i
