use Rattle.std.proofs.Common.{length, arith}
use Rattle.node_rope.proofs.FindLemmas.{counting, starts, place-left, place-here, place-right}
use Rattle.node_rope.proofs.find.node_at.Goals as goal

pub down-init : goal.down-init
down-init g c = starts length (λ _. 1) counting c.args.store.now c.args.root c.requires c.args.place

pub down-preserved-then-rest-left : goal.down-preserved-then-rest-left
down-preserved-then-rest-left g c =
    place-left c.args.store.now c.args.root c.requires c.args.place c.down.cur c.down.rest c.down.invariant c.in-Some.link c.in-Some.is c.shape-shape.result c.shape-shape.ensures
    c.count_below-left.result c.count_below-left.ensures c.if-rest-left.true

pub returns-then-rest-left-2-clause-inside : goal.returns-then-rest-left-2-clause-inside
returns-then-rest-left-2-clause-inside g c =
    (place-here c.args.store.now c.args.root c.requires c.args.place c.down.cur c.down.rest c.down.invariant c.in-Some.link c.in-Some.is c.shape-shape.result c.shape-shape.ensures
    c.count_below-left.result c.count_below-left.ensures c.if-rest-left-2.true).0

pub returns-then-rest-left-2-clause-found : goal.returns-then-rest-left-2-clause-found
returns-then-rest-left-2-clause-found g c =
    (place-here c.args.store.now c.args.root c.requires c.args.place c.down.cur c.down.rest c.down.invariant c.in-Some.link c.in-Some.is c.shape-shape.result c.shape-shape.ensures
    c.count_below-left.result c.count_below-left.ensures c.if-rest-left-2.true).1

pub down-preserved : goal.down-preserved
down-preserved g c = place-right c.args.store.now c.args.root c.requires c.args.place c.down.cur c.down.rest c.down.invariant c.in-Some.link c.in-Some.is c.shape-shape.result
    c.shape-shape.ensures c.count_below-left.result c.count_below-left.ensures (omega arith)
