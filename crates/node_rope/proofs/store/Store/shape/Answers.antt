use Rattle.std.proofs.Common.{◌∙◌, arith}
use Rattle.node_rope.specs.Shaped.{shape_of}
use Rattle.node_rope.specs.Shapes.{lone_shape}
use Rattle.node_rope.proofs.BoxLemmas.{lies-below}
use Rattle.node_rope.proofs.ListedLemmas.{got-mapped}
use Rattle.node_rope.proofs.store.Store.shape.Goals as goal

pub returns : goal.returns
returns g c =
    let p = c.args.self.now.pile in
    let h = lies-below p.moorings c.args.link.number c.args.link.spot.address c.requires in
    let pair = p.paired in
    c.shape.ensures ∙ got-mapped shape_of p.values c.args.link.number c.at.result.now lone_shape c.at.ensures (omega arith)
