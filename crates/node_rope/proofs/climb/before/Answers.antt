use Rattle.std.proofs.Common.{refl}
use Rattle.node_rope.proofs.ClimbLemmas.{climb-starts, climb-nearer, climb-right, climb-left, climbed}
use Rattle.node_rope.proofs.climb.before.Goals as goal

pub up-init : goal.up-init
up-init g c = climb-starts c.args.store.now c.args.root c.requires.sound c.args.at c.requires.made c.shape-shape.result c.shape-shape.ensures c.count_below-count.result
    c.weight_below-weight.result c.count_below-count.ensures c.weight_below-weight.ensures

pub up-preserved-then-leads_to : goal.up-preserved-then-leads_to
up-preserved-then-leads_to g c =
    climb-right c.args.store.now c.args.root c.requires.sound c.args.at.number c.up.cur c.up.shape c.up.count c.up.weight c.up.invariant c.in-Some.up c.in-Some.is
    c.shape-above.result c.shape-above.ensures (c.if-leads_to.ensures.0 refl)

pub up-preserved : goal.up-preserved
up-preserved g c = climb-left c.args.store.now c.args.root c.requires.sound c.args.at.number c.up.cur c.up.shape c.up.count c.up.weight c.up.invariant c.in-Some.up c.in-Some.is
    c.shape-above.result c.shape-above.ensures (λ e. let told = c.if-leads_to.ensures.1 e in cc)

pub up-smaller-then-leads_to : goal.up-smaller-then-leads_to
up-smaller-then-leads_to g c =
    climb-nearer c.args.store.now c.args.root c.requires.sound c.args.at.number c.up.cur c.up.shape c.up.count c.up.weight c.up.invariant c.in-Some.up c.in-Some.is
    c.shape-above.result c.shape-above.ensures

pub up-smaller : goal.up-smaller
up-smaller g c = climb-nearer c.args.store.now c.args.root c.requires.sound c.args.at.number c.up.cur c.up.shape c.up.count c.up.weight c.up.invariant c.in-Some.up c.in-Some.is
    c.shape-above.result c.shape-above.ensures

pub returns-clause-inside : goal.returns-clause-inside
returns-clause-inside g c = (climbed c.args.store.now c.args.root c.requires.sound c.args.at.number c.up.cur c.up.shape c.up.count c.up.weight c.up.invariant c.in_default.is).0

pub returns-clause-at : goal.returns-clause-at
returns-clause-at g c = (climbed c.args.store.now c.args.root c.requires.sound c.args.at.number c.up.cur c.up.shape c.up.count c.up.weight c.up.invariant c.in_default.is).1

pub returns-clause-weight : goal.returns-clause-weight
returns-clause-weight g c = (climbed c.args.store.now c.args.root c.requires.sound c.args.at.number c.up.cur c.up.shape c.up.count c.up.weight c.up.invariant c.in_default.is).2
