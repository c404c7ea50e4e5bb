use Rattle.std.proofs.Common.{refl, ◌∙◌}
use Rattle.node_rope.specs.Grown.{joined_beside}
use Rattle.node_rope.proofs.attach.join.Goals as goal

pub returns-clause-joined : goal.returns-clause-joined
unfolding joined_beside
returns-clause-joined g c =
    let m = c.in_ok-link.ensures.made in record {
      shapes = rw (c.set_shape.ensures.shapes, c.set_parent.ensures.shapes, m.shapes, c.facing.ensures, c.facing-next.ensures, c.shape.ensures) refl;
      values = c.set_shape.ensures.values ∙ c.set_parent.ensures.values ∙ m.values;
      number = m.number;
      made = c.set_shape.ensures.kept c.in_ok-link.link (c.set_parent.ensures.kept c.in_ok-link.link m.made);
      count = c.set_shape.ensures.count ∙ c.set_parent.ensures.count ∙ m.count;
    }
