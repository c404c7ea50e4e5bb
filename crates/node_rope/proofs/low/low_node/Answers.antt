use Rattle.std.proofs.Common.{◌-◌, drop, sym, ap, ◌∙◌, Some, arith}
use Rattle.node_rope.specs.Made.{shapes_of}
use Rattle.node_rope.specs.Shapes.{ranks}
use Rattle.node_rope.specs.Sides.{facing_shape}
use Rattle.node_rope.specs.Low.{or_else, first_low, low_from, seen_order}
use Rattle.node_rope.proofs.LowLemmas.{or_else-assoc, near-made, far-made, place-near, place-far}
use Rattle.node_rope.proofs.low.low_node.Goals as goal

pub down-preserved-then-rest-left : goal.down-preserved-then-rest-left
down-preserved-then-rest-left g c =
    let a = c.args in let q = c.requires in
    let L = first_low (ranks (shapes_of a.store.now)) a.most (drop c.down.rest (seen_order a.side a.store.now c.facing-shape.result.left)) in
    record {
      made = near-made a.store.now a.root q.sound q.fits a.most a.side c.in-Some.link c.facing-shape.result (c.facing-shape.ensures ∙ ap (facing_shape a.side) c.shape.ensures);
      near_made = c.low_from_or-near.ensures.made;
      same = ap (or_else L) c.low_from_or-near.ensures.found
          ∙ sym (or_else-assoc L (low_from (shapes_of a.store.now) a.most a.side (Some c.in-Some.link)) (low_from (shapes_of a.store.now) a.most a.side c.down.near))
          ∙ ap (λ o. or_else o (low_from (shapes_of a.store.now) a.most a.side c.down.near))
          (sym (place-near a.store.now a.root q.sound q.fits a.most a.side c.in-Some.link c.facing-shape.result
          (c.facing-shape.ensures ∙ ap (facing_shape a.side) c.shape.ensures) c.down.rest (omega (arith, c.count_below-left.ensures, c.if-rest-left.true))))
          ∙ ap (λ o. or_else (first_low (ranks (shapes_of a.store.now)) a.most (drop c.down.rest (seen_order a.side a.store.now o)))
          (low_from (shapes_of a.store.now) a.most a.side c.down.near)) (sym c.in-Some.is) ∙ c.down.invariant.same;
    }

pub down-preserved : goal.down-preserved
down-preserved g c =
    let a = c.args in let q = c.requires in
    record {
      made = far-made a.store.now a.root q.sound q.fits a.most a.side c.in-Some.link c.facing-shape.result (c.facing-shape.ensures ∙ ap (facing_shape a.side) c.shape.ensures);
      near_made = c.down.invariant.near_made;
      same = ap (λ n. or_else (first_low (ranks (shapes_of a.store.now)) a.most (drop (c.down.rest - n - 1) (seen_order a.side a.store.now c.facing-shape.result.right)))
          (low_from (shapes_of a.store.now) a.most a.side c.down.near)) c.count_below-left.ensures
          ∙ ap (λ xs. or_else (first_low (ranks (shapes_of a.store.now)) a.most xs) (low_from (shapes_of a.store.now) a.most a.side c.down.near))
          (sym (place-far a.store.now a.root q.sound q.fits a.most a.side c.in-Some.link c.facing-shape.result
          (c.facing-shape.ensures ∙ ap (facing_shape a.side) c.shape.ensures) c.down.rest (omega (arith, c.count_below-left.ensures, c.if-rest-left.false))))
          ∙ ap (λ o. or_else (first_low (ranks (shapes_of a.store.now)) a.most (drop c.down.rest (seen_order a.side a.store.now o)))
          (low_from (shapes_of a.store.now) a.most a.side c.down.near)) (sym c.in-Some.is) ∙ c.down.invariant.same;
    }
