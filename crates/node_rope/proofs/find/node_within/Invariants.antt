use Rattle.std.proofs.Common.{length}
use Rattle.node_rope.specs.Made.{shapes_of}
use Rattle.node_rope.specs.Shapes.{nodes_in_order, link_number, tree_of}
use Rattle.node_rope.specs.Walk.{count_of}
use Rattle.node_rope.specs.Found.{IsReached}
use Rattle.node_rope.proofs.find.node_within.Given as goal

abbrev pub invariant-down : goal.invariant-down
invariant-down g l = IsReached length l.store (nodes_in_order l.store l.fn.root) l.from l.cur l.rest

abbrev pub decreases-down : goal.decreases-down
decreases-down g l = count_of (tree_of (shapes_of l.store)) (link_number l.cur)
