use Rattle.std.proofs.Common.{sym, ap, ◌∙◌}
use Rattle.node_rope.specs.Made.{shapes_of}
use Rattle.node_rope.specs.Shapes.{link_number}
use Rattle.node_rope.specs.Places.{weight_sum}
use Rattle.node_rope.specs.Items.{own_of}
use Rattle.node_rope.proofs.ShapeLemmas.{weight-sum}
use Rattle.node_rope.proofs.ClimbLemmas.{weight-is}
use Rattle.node_rope.proofs.SeenLemmas.{weighs-all}
use Rattle.node_rope.proofs.rope.Rope.total.Goals as goal

pub returns : goal.returns
returns g c =
    let i = c.self.inside in
    let ss = shapes_of i.store in
    let sound = c.self.invariant.sound in
    let wt = own_of g.T.Weigh.weight_of g.T.Weigh.rank_of in
    c.weight_below.ensures ∙ weight-sum ss i.root ∙ weight-is ss sound.counted sound.weighed (link_number i.root) ∙ sym (weighs-all wt i.store i.root i.map.links c.self.invariant)
    ∙ ap (weight_sum g.T.Weigh.weight_of) c.self.view_is
