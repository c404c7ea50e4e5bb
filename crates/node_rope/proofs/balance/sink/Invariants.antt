use Rattle.std.proofs.Common.{◌≡◌}
use Rattle.node_rope.specs.Made.{IsMade, shapes_of}
use Rattle.node_rope.specs.Shapes.{shape_at}
use Rattle.node_rope.specs.Turned.{IsRearranged}
use Rattle.node_rope.proofs.balance.sink.Given as goal

abbrev pub invariant-down : goal.invariant-down
invariant-down g l = record {
  made : IsMade l.store l.node;
  read : l.shape ≡ shape_at (shapes_of l.store) l.node.number;
  same : IsRearranged l.initial.store l.store l.initial.top l.top;
}

abbrev pub decreases-down : goal.decreases-down
decreases-down g l = l.shape.count
