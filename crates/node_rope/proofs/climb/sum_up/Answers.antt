use Rattle.std.proofs.Common.{sym, ap, ◌∙◌, subst, Some}
use Rattle.node_rope.specs.declared.cells.Shape.{Shape}
use Rattle.node_rope.specs.Reweighed.{IsSoundBut}
use Rattle.node_rope.proofs.ReweighLemmas.{summed-step, still-trans, but-fits}
use Rattle.node_rope.proofs.climb.sum_up.Goals as goal

pub with_sums-requires-clause-left : goal.with_sums-requires-clause-left
with_sums-requires-clause-left g c = let b : IsSoundBut c.up.store c.args.root (Some c.in-Some.l) =
    subst (IsSoundBut c.up.store c.args.root) c.in-Some.is c.up.invariant.but in
    λ m e. b.tree.made_left c.in-Some.l.number m (sym (ap (λ (h : Shape). h.left) c.shape-shape.ensures) ∙ e)

pub with_sums-requires-clause-right : goal.with_sums-requires-clause-right
with_sums-requires-clause-right g c = let b : IsSoundBut c.up.store c.args.root (Some c.in-Some.l) =
    subst (IsSoundBut c.up.store c.args.root) c.in-Some.is c.up.invariant.but in
    λ m e. b.tree.made_right c.in-Some.l.number m (sym (ap (λ (h : Shape). h.right) c.shape-shape.ensures) ∙ e)

pub with_sums-requires-clause-fits : goal.with_sums-requires-clause-fits
with_sums-requires-clause-fits g c = let b : IsSoundBut c.up.store c.args.root (Some c.in-Some.l) =
    subst (IsSoundBut c.up.store c.args.root) c.in-Some.is c.up.invariant.but in rw c.shape-shape.ensures (but-fits c.up.store c.args.root c.in-Some.l b)

pub up-preserved : goal.up-preserved
up-preserved g c =
    let inv = c.up.invariant in let e = c.set_shape.ensures in
    let once = summed-step c.up.store c.set_shape.new.self c.args.root c.up.cur c.in-Some.l c.in-Some.is inv.but c.shape-shape.result c.with_sums.result c.shape-shape.ensures
    c.with_sums.ensures e.count e.kept e.shapes in
    record {
      but = once.but;
      still = still-trans _ _ _ inv.still once.still;
      owns = λ i. once.owns i ∙ inv.owns i;
      values = e.values ∙ inv.values;
      count = e.count ∙ inv.count;
      kept = λ m made. e.kept m (inv.kept m made);
    }

pub up-smaller : goal.up-smaller
up-smaller g c =
    let inv = c.up.invariant in let e = c.set_shape.ensures in
    let once = summed-step c.up.store c.set_shape.new.self c.args.root c.up.cur c.in-Some.l c.in-Some.is inv.but c.shape-shape.result c.with_sums.result c.shape-shape.ensures
    c.with_sums.ensures e.count e.kept e.shapes in
    once.smaller
