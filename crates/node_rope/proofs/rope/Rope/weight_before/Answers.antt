use Rattle.std.proofs.Common.{◌≡◌, take, None, sym, ap, ◌∙◌, subst}
use Rattle.node_rope.specs.Items.{own_of, value_under}
use Rattle.node_rope.specs.Places.{StandsAt, weight_sum}
use Rattle.node_rope.proofs.KeyLemmas.{not-held}
use Rattle.node_rope.proofs.SeenLemmas.{stands, weighs-to}
use Rattle.node_rope.proofs.rope.Rope.weight_before.Goals as goal

pub before-requires-clause-made : goal.before-requires-clause-made
before-requires-clause-made g c = c.self.invariant.mapped c.args.key c.in-Some.link (sym c.find_link.ensures ∙ c.in-Some.is)

pub returns-in-Some-clause-some : goal.returns-in-Some-clause-some
returns-in-Some-clause-some g c =
    let i = c.self.inside in
    let b = c.before-in-Some in
    let wt = own_of g.T.Weigh.weight_of g.T.Weigh.rank_of in
    let at = stands wt i.store i.root i.map.links c.self.invariant c.args.key c.in-Some.link
    (sym c.find_link.ensures ∙ c.in-Some.is) b.result.count b.ensures.inside b.ensures.at in
    let sum = weighs-to wt i.store i.root i.map.links c.self.invariant b.result.count b.result.weight b.ensures.weight in
    (b.result.count, subst (λ xs. StandsAt xs b.result.count c.args.key) c.self.view_is at, sum ∙ ap (λ xs. weight_sum g.T.Weigh.weight_of (take b.result.count xs)) c.self.view_is)

pub returns-in-None-clause-none : goal.returns-in-None-clause-none
returns-in-None-clause-none g c =
    let i = c.self.inside in
    subst (λ xs. value_under c.args.key xs ≡ None) c.self.view_is
    (not-held (own_of g.T.Weigh.weight_of g.T.Weigh.rank_of) i.store i.root i.map.links c.self.invariant c.args.key (sym c.find_link.ensures ∙ c.in-None.is))
