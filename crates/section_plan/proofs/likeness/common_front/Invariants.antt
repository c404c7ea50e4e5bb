use Rattle.std.specs.Prelude.{◌≡◌, ◌+◌, ◌-◌, ◌≤◌, nat_eq, length}
use Rattle.std.specs.List.{common_prefix_len}
use Rattle.std.proofs.Common.{drop}
use Rattle.section_plan.proofs.likeness.common_front.Given as goal

abbrev pub invariant-front : goal.invariant-front
invariant-front l = record {
  old : l.front ≤ length l.old;
  new : l.front ≤ length l.new;
  common : common_prefix_len nat_eq l.old l.new ≡ l.front + common_prefix_len nat_eq (drop l.front l.old) (drop l.front l.new);
}

abbrev pub decreases-front : goal.decreases-front
decreases-front l = length l.old - l.front
