use Rattle.std.proofs.Common.{drop, length, ◌+◌, ◌-◌, ◌≡◌, ◌≤◌}
use Rattle.order_proof.specs.Making.{common_count}
use Rattle.order_proof.proofs.making.common_count.Given as goal

abbrev pub invariant-scan : goal.invariant-scan
invariant-scan l = record { rest : l.i + common_count (drop l.i l.xs) (drop l.i l.ys) ≡ common_count l.xs l.ys; in_first : l.i ≤ length l.xs; in_second : l.i ≤ length l.ys }

abbrev pub decreases-scan : goal.decreases-scan
decreases-scan l = length l.xs - l.i
