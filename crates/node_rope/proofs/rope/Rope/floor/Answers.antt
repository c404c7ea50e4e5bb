use Rattle.std.proofs.Common.{subst}
use Rattle.node_rope.specs.Places.{IsFloor}
use Rattle.node_rope.specs.Items.{own_of}
use Rattle.node_rope.proofs.SeenLemmas.{floor-seen}
use Rattle.node_rope.proofs.rope.Rope.floor.Goals as goal

pub returns : goal.returns
returns g c =
    let i = c.self.inside in
    subst (λ xs. IsFloor xs c.args.key c.floor_key.result) c.self.view_is
    (floor-seen (own_of g.T.Weigh.weight_of g.T.Weigh.rank_of) i.store i.root i.map.links c.self.invariant c.args.key c.floor_key.result c.floor_key.ensures)
