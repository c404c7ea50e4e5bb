use Rattle.std.proofs.Common.{◌≡◌, ◌-◌, Some, suc}
use Rattle.node_rope.specs.Made.{IsMade, made_count, shapes_of}
use Rattle.node_rope.specs.Shapes.{shape_at, tree_of}
use Rattle.node_rope.specs.Walk.{all_nodes}
use Rattle.node_rope.proofs.AfterLemmas.{IsLast}
use Rattle.node_rope.proofs.find.node_above.Given as goal

abbrev pub invariant-up : goal.invariant-up
invariant-up g l = record {
  made : IsMade l.store l.cur;
  read : l.shape ≡ shape_at (shapes_of l.store) l.cur.number;
  last : IsLast (all_nodes (tree_of (shapes_of l.store)) (Some l.cur.number)) l.fn.at.number;
}

abbrev pub decreases-up : goal.decreases-up
decreases-up g l = suc (made_count l.store) - l.shape.count
