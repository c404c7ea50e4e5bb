use Rattle.std.specs.Prelude.{◌≡◌, ◌+◌, ◌-◌, ◌≤◌, nat_eq, length, reverse}
use Rattle.std.specs.List.{common_prefix_len}
use Rattle.std.proofs.Common.{drop}
use Rattle.section_plan.proofs.likeness.common_end.Given as goal

abbrev pub invariant-end : goal.invariant-end
invariant-end l = record {
  old : l.end ≤ length l.old;
  new : l.end ≤ length l.new;
  common : common_prefix_len nat_eq (reverse l.old) (reverse l.new) ≡ l.end + common_prefix_len nat_eq (drop l.end (reverse l.old)) (drop l.end (reverse l.new));
}

abbrev pub decreases-end : goal.decreases-end
decreases-end l = length l.old - l.end
