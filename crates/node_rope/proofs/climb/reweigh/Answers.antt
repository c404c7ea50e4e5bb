use Rattle.std.proofs.Common.{◌∙◌, arith}
use Rattle.node_rope.specs.Made.{shapes_of}
use Rattle.node_rope.proofs.ReweighLemmas.{still-trans}
use Rattle.node_rope.proofs.OffLemmas.{off-fits, off-covers, shifted-step}
use Rattle.node_rope.proofs.climb.reweigh.Goals as goal

pub shift-cur-requires-clause-fits : goal.shift-cur-requires-clause-fits
shift-cur-requires-clause-fits g c = off-fits c.up.store c.args.root c.up.cur c.in-Some.l c.in-Some.is c.up.invariant.but c.args.more (omega (arith, c.ranges.more))

pub shift-cur-requires-clause-covers : goal.shift-cur-requires-clause-covers
shift-cur-requires-clause-covers g c = off-covers (shapes_of c.up.store) c.args.less c.args.more c.up.cur c.in-Some.l c.in-Some.is c.up.invariant.off

pub up-preserved : goal.up-preserved
up-preserved g c =
    let inv = c.up.invariant in let e = c.shift-cur.ensures in
    let step = shifted-step c.up.store c.shift-cur.new.self c.args.root c.args.less c.args.more c.up.cur c.shift-cur.result c.in-Some.l c.in-Some.is inv.but inv.off e.parent
    e.count e.kept e.shapes in
    record {
      but = step.once.but;
      off = step.off;
      still = still-trans _ _ _ inv.still step.once.still;
      owns = λ i. step.once.owns i ∙ inv.owns i;
      values = e.values ∙ inv.values;
      count = e.count ∙ inv.count;
      kept = λ m made. e.kept m (inv.kept m made);
    }

pub up-smaller : goal.up-smaller
up-smaller g c =
    let inv = c.up.invariant in let e = c.shift-cur.ensures in
    let step = shifted-step c.up.store c.shift-cur.new.self c.args.root c.args.less c.args.more c.up.cur c.shift-cur.result c.in-Some.l c.in-Some.is inv.but inv.off e.parent
    e.count e.kept e.shapes in
    step.once.smaller
