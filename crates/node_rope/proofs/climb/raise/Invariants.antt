use Rattle.std.proofs.Common.{◌≡◌}
use Rattle.node_rope.specs.Made.{KeepsMade, made_count, shapes_of, values_of}
use Rattle.node_rope.specs.Rising.{IsRising, IsRaised, SameLinks, left_to_rise}
use Rattle.node_rope.proofs.climb.raise.Given as goal

abbrev pub invariant-up : goal.invariant-up
invariant-up g l = record {
  rising : IsRising l.store l.own l.cur;
  links : SameLinks (shapes_of l.initial.store) (shapes_of l.store);
  values : values_of l.store ≡ values_of l.initial.store;
  count : made_count l.store ≡ made_count l.initial.store;
  kept : KeepsMade l.initial.store l.store;
  raised : IsRaised (shapes_of l.initial.store) (shapes_of l.store) l.own l.cur;
}

abbrev pub decreases-up : goal.decreases-up
decreases-up g l = left_to_rise (shapes_of l.store) l.cur
