use Rattle.node_rope.specs.Made.{shapes_of}
use Rattle.node_rope.specs.Shapes.{owns, weigh}
use Rattle.node_rope.proofs.FindLemmas.{weighing, starts, find-left, find-here, find-right}
use Rattle.node_rope.proofs.find.find_weight.Goals as goal

pub down-init : goal.down-init
down-init g c = starts (weigh (shapes_of c.args.store.now)) (owns (shapes_of c.args.store.now))
    (weighing (shapes_of c.args.store.now)) c.args.store.now c.args.root c.requires c.args.w

pub down-preserved-then-rest-left : goal.down-preserved-then-rest-left
down-preserved-then-rest-left g c =
    find-left c.args.store.now c.args.root c.requires c.args.w c.down.cur c.down.rest c.down.invariant c.in-Some.link c.in-Some.is c.shape-shape.result c.shape-shape.ensures
    c.weight_below-left.result c.weight_below-left.ensures c.if-rest-left.true

pub returns-then-rest-left-2-clause-found : goal.returns-then-rest-left-2-clause-found
returns-then-rest-left-2-clause-found g c =
    find-here c.args.store.now c.args.root c.requires c.args.w c.down.cur c.down.rest c.down.invariant c.in-Some.link c.in-Some.is c.shape-shape.result c.shape-shape.ensures
    c.weight_below-left.result c.weight_below-left.ensures c.if-rest-left.false c.if-rest-left-2.true

pub down-preserved : goal.down-preserved
down-preserved g c = find-right c.args.store.now c.args.root c.requires c.args.w c.down.cur c.down.rest c.down.invariant c.in-Some.link c.in-Some.is c.shape-shape.result
    c.shape-shape.ensures c.weight_below-left.result c.weight_below-left.ensures c.if-rest-left.false c.if-rest-left-2.false
