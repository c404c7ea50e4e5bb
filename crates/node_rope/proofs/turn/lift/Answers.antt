use Rattle.std.proofs.Common.{refl}
use Rattle.node_rope.specs.Turned.{lifted_shapes}
use Rattle.node_rope.proofs.turn.lift.Goals as goal

pub returns-clause-shapes : goal.returns-clause-shapes
unfolding lifted_shapes
returns-clause-shapes g c =
    rw (
      c.set_shape-2.ensures.shapes,
      c.set_shape.ensures.shapes,
      c.set_parent.ensures.shapes,
      c.facing-2.ensures,
      c.facing.ensures,
      c.count_below-inner.ensures,
      c.weight_below-sum.ensures,
      c.min-least.ensures,
      c.min.ensures,
      c.least_below-other.ensures,
      c.least_below.ensures,
    ) refl
