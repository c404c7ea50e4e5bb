use Rattle.std.proofs.Common.{◌≡◌, sym, subst, ◌∙◌, arith}
use Rattle.std.specs.Prelude.{OnOk, IfErr}
use Rattle.node_rope.specs.Beside.{placed_beside}
use Rattle.node_rope.specs.Items.{own_of, rope_items_of}
use Rattle.node_rope.proofs.KeyLemmas.{fresh}
use Rattle.node_rope.proofs.NodeCountLemmas.{few-made}
use Rattle.node_rope.proofs.rope.Rope.insert_beside.Goals as goal

pub grow-requires-clause-held : goal.grow-requires-clause-held
grow-requires-clause-held g c = sym c.find_link.ensures ∙ c.in-Some.is

pub grow-requires-clause-fresh : goal.grow-requires-clause-fresh
grow-requires-clause-fresh g c =
    let i = c.self.inside in
    fresh (own_of g.T.Weigh.weight_of g.T.Weigh.rank_of) i.store i.root i.map.links c.self.invariant c.args.key c.args.self.now c.self.view_is c.requires.fresh

pub grow-requires-clause-room : goal.grow-requires-clause-room
grow-requires-clause-room g c =
    let i = c.self.inside in
    omega (arith, few-made (own_of g.T.Weigh.weight_of g.T.Weigh.rank_of) i.store i.root i.map.links c.self.invariant c.args.self.now c.self.view_is, c.requires.room)

pub returns-clause-placed : goal.returns-clause-placed
returns-clause-placed g c =
    subst (λ xs. OnOk c.grow.result (rope_items_of c.grow.new.store c.grow.new.root ≡ placed_beside c.args.side c.args.at (c.args.key, c.args.value) xs)) c.self.view_is
    c.grow.ensures.placed

pub returns-clause-refused : goal.returns-clause-refused
returns-clause-refused g c =
    subst (λ xs. IfErr c.grow.result (λ b. (b.value ≡ c.args.value) × (rope_items_of c.grow.new.store c.grow.new.root ≡ xs))) c.self.view_is c.grow.ensures.refused
