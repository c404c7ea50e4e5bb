use Rattle.std.proofs.Common.{sym, ap, ◌∙◌}
use Rattle.node_rope.specs.Made.{shapes_of}
use Rattle.node_rope.specs.Sides.{facing_shape}
use Rattle.node_rope.specs.Low.{low_below}
use Rattle.node_rope.proofs.LowLemmas.{near-made, far-made, goes-near, passes, stands, goes-far}
use Rattle.node_rope.proofs.low.nearest_below.Goals as goal

pub down-preserved-then-is_low : goal.down-preserved-then-is_low
down-preserved-then-is_low g c =
    let a = c.args in let q = c.requires in
    record {
      made = near-made a.store.now a.root q.sound q.fits a.most a.side c.in-Some.link c.facing-shape.result (c.facing-shape.ensures ∙ ap (facing_shape a.side) c.shape.ensures);
      same = sym (goes-near a.store.now a.root q.sound q.fits a.most a.side c.in-Some.link c.facing-shape.result
          (c.facing-shape.ensures ∙ ap (facing_shape a.side) c.shape.ensures) (sym c.is_low.ensures ∙ c.if-is_low.true))
          ∙ ap (low_below (shapes_of a.store.now) a.most a.side) (sym c.in-Some.is) ∙ c.down.invariant.same;
    }

pub returns-then-shape-most-clause-found : goal.returns-then-shape-most-clause-found
returns-then-shape-most-clause-found g c =
    let a = c.args in let q = c.requires in
    sym (stands a.store.now a.root q.sound q.fits a.most a.side c.in-Some.link c.facing-shape.result
    (c.facing-shape.ensures ∙ ap (facing_shape a.side) c.shape.ensures) c.if-shape-most.true)
    ∙ sym (passes a.store.now a.root q.sound q.fits a.most a.side c.in-Some.link c.facing-shape.result (c.facing-shape.ensures ∙ ap (facing_shape a.side) c.shape.ensures)
    (sym c.is_low.ensures ∙ c.if-is_low.false)) ∙ ap (low_below (shapes_of a.store.now) a.most a.side) (sym c.in-Some.is) ∙ c.down.invariant.same

pub down-preserved : goal.down-preserved
down-preserved g c =
    let a = c.args in let q = c.requires in
    record {
      made = far-made a.store.now a.root q.sound q.fits a.most a.side c.in-Some.link c.facing-shape.result (c.facing-shape.ensures ∙ ap (facing_shape a.side) c.shape.ensures);
      same = sym (goes-far a.store.now a.root q.sound q.fits a.most a.side c.in-Some.link c.facing-shape.result
          (c.facing-shape.ensures ∙ ap (facing_shape a.side) c.shape.ensures) c.if-shape-most.false)
          ∙ sym (passes a.store.now a.root q.sound q.fits a.most a.side c.in-Some.link c.facing-shape.result (c.facing-shape.ensures ∙ ap (facing_shape a.side) c.shape.ensures)
          (sym c.is_low.ensures ∙ c.if-is_low.false)) ∙ ap (low_below (shapes_of a.store.now) a.most a.side) (sym c.in-Some.is) ∙ c.down.invariant.same;
    }
