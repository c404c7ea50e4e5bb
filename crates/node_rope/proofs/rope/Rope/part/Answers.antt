use Rattle.std.proofs.Common.{sym, ap, ◌∙◌, arith}
use Rattle.node_rope.specs.Beside.{placed_after, put_under}
use Rattle.node_rope.specs.Items.{own_of}
use Rattle.node_rope.proofs.KeyLemmas.{fresh}
use Rattle.node_rope.proofs.NodeCountLemmas.{few-made}
use Rattle.node_rope.proofs.rope.Rope.part.Goals as goal

pub grow-requires-clause-held : goal.grow-requires-clause-held
grow-requires-clause-held g c = sym c.find_link.ensures ∙ c.in-Some.is

pub grow-requires-clause-fresh : goal.grow-requires-clause-fresh
grow-requires-clause-fresh g c =
    let i = c.self.inside in
    fresh (own_of g.T.Weigh.weight_of g.T.Weigh.rank_of) i.store i.root i.map.links c.self.invariant c.args.key c.args.self.now c.self.view_is c.requires.fresh

pub grow-requires-clause-room : goal.grow-requires-clause-room
grow-requires-clause-room g c =
    let i = c.self.inside in
    omega (arith, few-made (own_of g.T.Weigh.weight_of g.T.Weigh.rank_of) i.store i.root i.map.links c.self.invariant c.args.self.now c.self.view_is, c.requires.room)

pub returns-in-Ok-clause-parted : goal.returns-in-Ok-clause-parted
returns-in-Ok-clause-parted g c =
    c.refill.ensures.put ∙ ap (put_under c.args.at c.args.front) (c.in-Ok.ensures.placed ∙ ap (placed_after c.args.at (c.args.key, c.args.back)) c.self.view_is)
