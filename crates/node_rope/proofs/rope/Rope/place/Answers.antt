use Rattle.std.proofs.Common.{◌∙◌, ◌≡◌, length, None, sym, ap, subst, arith}
use Rattle.node_rope.specs.Items.{own_of, value_under}
use Rattle.node_rope.specs.Places.{StandsAt}
use Rattle.node_rope.proofs.KeyLemmas.{not-held}
use Rattle.node_rope.proofs.SeenLemmas.{stands, order-length}
use Rattle.node_rope.proofs.rope.Rope.place.Goals as goal

pub before-requires-clause-made : goal.before-requires-clause-made
before-requires-clause-made g c = c.self.invariant.mapped c.args.key c.in-Some.link (sym c.find_link.ensures ∙ c.in-Some.is)

pub returns-in-Some-clause-some : goal.returns-in-Some-clause-some
returns-in-Some-clause-some g c =
    let b = c.before-in-Some in
    let i = c.self.inside in
    subst (λ xs. StandsAt xs b.result.count c.args.key) c.self.view_is
    (stands (own_of g.T.Weigh.weight_of g.T.Weigh.rank_of) i.store i.root i.map.links c.self.invariant c.args.key c.in-Some.link
    (sym c.find_link.ensures ∙ c.in-Some.is) b.result.count b.ensures.inside b.ensures.at)

pub returns-in-Some-clause-inside : goal.returns-in-Some-clause-inside
returns-in-Some-clause-inside g c =
    let i = c.self.inside in
    let items = order-length (own_of g.T.Weigh.weight_of g.T.Weigh.rank_of) i.store i.root i.map.links c.self.invariant in
    omega (arith, items, ap length c.self.view_is, c.before-in-Some.ensures.inside)

pub returns-in-None-clause-none : goal.returns-in-None-clause-none
returns-in-None-clause-none g c =
    let i = c.self.inside in
    subst (λ xs. value_under c.args.key xs ≡ None) c.self.view_is
    (not-held (own_of g.T.Weigh.weight_of g.T.Weigh.rank_of) i.store i.root i.map.links c.self.invariant c.args.key (sym c.find_link.ensures ∙ c.in-None.is))
