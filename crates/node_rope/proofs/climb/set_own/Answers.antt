use Rattle.std.proofs.Common.{◌∙◌}
use Rattle.node_rope.proofs.ReweighLemmas.{own-but, own-off, own-still, own-here, own-others, still-trans}
use Rattle.node_rope.proofs.climb.set_own.Goals as goal

pub mend-requires-clause-but : goal.mend-requires-clause-but
mend-requires-clause-but g c =
    let r = c.requires in let e = c.set_shape.ensures in
    own-but c.args.store.now c.set_shape.new.self c.args.root c.args.at c.args.own r.sound r.made e.count e.kept c.shape-shape.result c.shape-shape.ensures e.shapes r.few r.light
    r.own

pub mend-requires-clause-off : goal.mend-requires-clause-off
mend-requires-clause-off g c same =
    let r = c.requires in let e = c.set_shape.ensures in
    own-off c.args.store.now c.set_shape.new.self c.args.root c.args.at c.args.own r.sound r.made e.count e.kept c.shape-shape.result c.shape-shape.ensures e.shapes same

pub returns-clause-still : goal.returns-clause-still
returns-clause-still g c =
    let r = c.requires in let e = c.set_shape.ensures in
    still-trans _ _ _ (own-still c.args.store.now c.set_shape.new.self c.args.root c.args.at c.args.own r.sound r.made e.count e.kept c.shape-shape.result c.shape-shape.ensures
    e.shapes) c.mend.ensures.still

pub returns-clause-here : goal.returns-clause-here
returns-clause-here g c =
    let r = c.requires in let e = c.set_shape.ensures in
    c.mend.ensures.owns c.args.at.number ∙ own-here c.args.store.now c.set_shape.new.self c.args.root c.args.at c.args.own r.sound r.made e.count e.kept c.shape-shape.result
    c.shape-shape.ensures e.shapes

pub returns-clause-others : goal.returns-clause-others
returns-clause-others g c i ne =
    let r = c.requires in let e = c.set_shape.ensures in
    c.mend.ensures.owns i ∙ own-others c.args.store.now c.set_shape.new.self c.args.root c.args.at c.args.own r.sound r.made e.count e.kept c.shape-shape.result
    c.shape-shape.ensures e.shapes i ne
