use Rattle.std.proofs.Common.{length, arith}
use Rattle.node_rope.proofs.FindLemmas.{counting, starts, place-left, place-found, place-right}
use Rattle.node_rope.proofs.find.node_within.Goals as goal

pub down-init : goal.down-init
down-init g c = starts length (λ _. 1) counting c.args.store.now c.args.root c.requires c.args.from

pub down-preserved-then-left-rest : goal.down-preserved-then-left-rest
down-preserved-then-left-rest g c =
    place-right c.args.store.now c.args.root c.requires c.args.from c.down.cur c.down.rest c.down.invariant c.in-Some.link c.in-Some.is c.shape-shape.result c.shape-shape.ensures
    c.count_below-left.result c.count_below-left.ensures c.if-left-rest.true

pub returns-then-left-rest-2-clause-inside : goal.returns-then-left-rest-2-clause-inside
returns-then-left-rest-2-clause-inside g c =
    (place-found c.args.store.now c.args.root c.requires c.args.from c.down.cur c.down.rest c.down.invariant c.in-Some.link c.in-Some.is c.shape-shape.result c.shape-shape.ensures
    c.count_below-left.result c.count_below-left.ensures (omega (arith, c.if-left-rest.false))).0

pub returns-then-left-rest-2-clause-found : goal.returns-then-left-rest-2-clause-found
returns-then-left-rest-2-clause-found g c =
    (place-found c.args.store.now c.args.root c.requires c.args.from c.down.cur c.down.rest c.down.invariant c.in-Some.link c.in-Some.is c.shape-shape.result c.shape-shape.ensures
    c.count_below-left.result c.count_below-left.ensures (omega (arith, c.if-left-rest.false))).1

pub down-preserved : goal.down-preserved
down-preserved g c = place-left c.args.store.now c.args.root c.requires c.args.from c.down.cur c.down.rest c.down.invariant c.in-Some.link c.in-Some.is c.shape-shape.result
    c.shape-shape.ensures c.count_below-left.result c.count_below-left.ensures (omega (arith, c.if-left-rest.false, c.if-left-rest-2.false, c.if-to-from.false))
