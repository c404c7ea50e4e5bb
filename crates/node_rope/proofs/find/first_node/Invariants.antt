use Rattle.std.proofs.Common.{◌≡◌, Some, slice_get}
use Rattle.node_rope.specs.Made.{IsMade, shapes_of}
use Rattle.node_rope.specs.Shapes.{shape_at, tree_of}
use Rattle.node_rope.specs.Walk.{all_nodes}
use Rattle.node_rope.proofs.find.first_node.Given as goal

abbrev pub invariant-down : goal.invariant-down
invariant-down g l = record {
  made : IsMade l.store l.cur;
  read : l.shape ≡ shape_at (shapes_of l.store) l.cur.number;
  same : slice_get (all_nodes (tree_of (shapes_of l.store)) (Some l.cur.number)) 0 ≡ slice_get (all_nodes (tree_of (shapes_of l.store)) (Some l.fn.from.number)) 0;
}

abbrev pub decreases-down : goal.decreases-down
decreases-down g l = l.shape.count
