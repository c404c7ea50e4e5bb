use Rattle.std.proofs.Common.{◌≡◌, drop}
use Rattle.node_rope.specs.Made.{shapes_of}
use Rattle.node_rope.specs.Shapes.{AreMade, link_number, ranks, tree_of}
use Rattle.node_rope.specs.Walk.{count_of}
use Rattle.node_rope.specs.Low.{first_low, low_from, or_else, seen_order}
use Rattle.node_rope.proofs.low.low_node.Given as goal

abbrev pub invariant-down : goal.invariant-down
invariant-down g l = record {
  made : AreMade l.store l.cur;
  near_made : AreMade l.store l.near;
  same : or_else (first_low (ranks (shapes_of l.store)) l.most (drop l.rest (seen_order l.side l.store l.cur))) (low_from (shapes_of l.store) l.most l.side l.near) ≡ first_low
      (ranks (shapes_of l.store)) l.most (drop l.fn.from (seen_order l.side l.store l.fn.root));
}

abbrev pub decreases-down : goal.decreases-down
decreases-down g l = count_of (tree_of (shapes_of l.store)) (link_number l.cur)
