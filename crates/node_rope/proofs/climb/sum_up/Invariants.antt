use Rattle.std.proofs.Common.{◌≡◌}
use Rattle.node_rope.specs.Made.{KeepsMade, made_count, shapes_of, values_of}
use Rattle.node_rope.specs.Reweighed.{IsSoundBut, AreStill, SameOwns}
use Rattle.node_rope.proofs.ReweighLemmas.{left_to_sum}
use Rattle.node_rope.proofs.climb.sum_up.Given as goal

abbrev pub invariant-up : goal.invariant-up
invariant-up g l = record {
  but : IsSoundBut l.store l.fn.root l.cur;
  still : AreStill (shapes_of l.initial.store) (shapes_of l.store);
  owns : SameOwns (shapes_of l.initial.store) (shapes_of l.store);
  values : values_of l.store ≡ values_of l.initial.store;
  count : made_count l.store ≡ made_count l.initial.store;
  kept : KeepsMade l.initial.store l.store;
}

abbrev pub decreases-up : goal.decreases-up
decreases-up g l = left_to_sum (made_count l.store) (shapes_of l.store) l.cur
