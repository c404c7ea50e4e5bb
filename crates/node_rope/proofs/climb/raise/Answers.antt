use Rattle.std.proofs.Common.{ap, ◌∙◌, arith}
use Rattle.node_rope.specs.Made.{shapes_of}
use Rattle.node_rope.specs.Shapes.{link_number}
use Rattle.node_rope.proofs.RaiseLemmas.{raised-step, links-trans}
use Rattle.node_rope.proofs.climb.raise.Goals as goal

pub raise-cur-requires-clause-counts : goal.raise-cur-requires-clause-counts
raise-cur-requires-clause-counts g c = let x =
    c.in-Some.l.number in omega (arith, c.requires.small.counts x, ap (λ h. h.count) (c.up.invariant.raised.at x (ap link_number c.in-Some.is)))

pub raise-cur-requires-clause-weights : goal.raise-cur-requires-clause-weights
raise-cur-requires-clause-weights g c = let x =
    c.in-Some.l.number in omega (arith, c.requires.small.weights x, ap (λ h. h.weight) (c.up.invariant.raised.at x (ap link_number c.in-Some.is)))

pub up-preserved : goal.up-preserved
up-preserved g c =
    let inv = c.up.invariant in let e = c.raise-cur.ensures in
    let once = raised-step c.up.store c.raise-cur.new.self c.args.own c.up.cur c.raise-cur.result c.in-Some.l c.in-Some.is inv.rising e.parent e.kept e.shapes in
    record {
      rising = once.rising;
      links = links-trans _ _ _ inv.links once.links;
      values = e.values ∙ inv.values;
      count = e.count ∙ inv.count;
      kept = λ m made. e.kept m (inv.kept m made);
      raised = once.raised (shapes_of c.args.store.now) inv.raised;
    }

pub up-smaller : goal.up-smaller
up-smaller g c =
    let inv = c.up.invariant in let e = c.raise-cur.ensures in
    let once = raised-step c.up.store c.raise-cur.new.self c.args.own c.up.cur c.raise-cur.result c.in-Some.l c.in-Some.is inv.rising e.parent e.kept e.shapes in
    once.smaller (shapes_of c.args.store.now) inv.raised c.requires.small
