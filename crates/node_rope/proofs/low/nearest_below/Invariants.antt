use Rattle.std.proofs.Common.{◌≡◌}
use Rattle.node_rope.specs.Made.{shapes_of}
use Rattle.node_rope.specs.Shapes.{AreMade, link_number, tree_of}
use Rattle.node_rope.specs.Walk.{count_of}
use Rattle.node_rope.specs.Low.{low_below}
use Rattle.node_rope.proofs.low.nearest_below.Given as goal

abbrev pub invariant-down : goal.invariant-down
invariant-down g l = record {
  made : AreMade l.store l.cur;
  same : low_below (shapes_of l.store) l.most l.side l.cur ≡ low_below (shapes_of l.store) l.most l.side l.fn.from;
}

abbrev pub decreases-down : goal.decreases-down
decreases-down g l = count_of (tree_of (shapes_of l.store)) (link_number l.cur)
