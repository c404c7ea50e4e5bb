use Rattle.std.proofs.Common.{sym, ap, ◌∙◌}
use Rattle.node_rope.specs.Sides.{facing_shape}
use Rattle.node_rope.specs.Made.{shapes_of}
use Rattle.node_rope.specs.Low.{low_from}
use Rattle.node_rope.proofs.LowLemmas.{keeps-far, leaves}
use Rattle.node_rope.proofs.low.low_from_or.Goals as goal

pub returns-then-is_low-clause-found : goal.returns-then-is_low-clause-found
returns-then-is_low-clause-found g c =
    let a = c.args in let q = c.requires in
    sym (keeps-far a.store.now a.root q.sound q.fits a.most a.side a.link c.facing-shape.result (c.facing-shape.ensures ∙ ap (facing_shape a.side) c.shape.ensures)
    (low_from (shapes_of a.store.now) a.most a.side a.other) c.if-shape-most.false (sym c.is_low.ensures ∙ c.if-is_low.true))

pub returns-else-is_low-clause-found : goal.returns-else-is_low-clause-found
returns-else-is_low-clause-found g c =
    let a = c.args in let q = c.requires in
    sym (leaves a.store.now a.root q.sound q.fits a.most a.side a.link c.facing-shape.result (c.facing-shape.ensures ∙ ap (facing_shape a.side) c.shape.ensures)
    (low_from (shapes_of a.store.now) a.most a.side a.other) c.if-shape-most.false (sym c.is_low.ensures ∙ c.if-is_low.false))
