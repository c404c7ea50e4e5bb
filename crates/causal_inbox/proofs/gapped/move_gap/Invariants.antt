use Rattle.std.proofs.Common.{◌-◌, ◌≡◌, ◌≤◌, ◌+◌, length}
use Rattle.causal_inbox.specs.Gap.{items_around_gap}
use Rattle.causal_inbox.proofs.gapped.move_gap.Given as goal

abbrev pub invariant-on : goal.invariant-on
invariant-on g l = record {
  len : length l.items ≡ length l.initial.items;
  within : l.at + l.size ≤ length l.items;
  around : items_around_gap l.items l.at l.size ≡ items_around_gap l.initial.items l.from l.size;
}

abbrev pub decreases-on : goal.decreases-on
decreases-on g l = l.to - l.at

abbrev pub invariant-back : goal.invariant-back
invariant-back g l = record {
  len : length l.items ≡ length l.initial.items;
  behind : l.to ≤ l.at;
  within : l.at + l.size ≤ length l.items;
  around : items_around_gap l.items l.at l.size ≡ items_around_gap l.fn.items l.from l.size;
}

abbrev pub decreases-back : goal.decreases-back
decreases-back g l = l.at - l.to
