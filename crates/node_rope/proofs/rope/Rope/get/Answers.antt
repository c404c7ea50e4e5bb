use Rattle.std.proofs.Common.{◌≡◌, None, Some, sym, ap, ◌∙◌, subst}
use Rattle.node_rope.specs.Items.{own_of, value_under}
use Rattle.node_rope.proofs.ShapeLemmas.{made-below}
use Rattle.node_rope.proofs.KeyLemmas.{not-held, held, value-made, value-read}
use Rattle.node_rope.proofs.rope.Rope.get.Goals as goal

pub value-requires : goal.value-requires
value-requires g c = c.self.invariant.mapped c.args.key c.in-Some.link (sym c.find_link.ensures ∙ c.in-Some.is)

pub returns-in-Some : goal.returns-in-Some
returns-in-Some g c =
    let i = c.self.inside in
    let l = c.in-Some.link in
    let r = c.self.invariant in
    let v = value-made i.store l.number (made-below i.store l (r.mapped c.args.key l (sym c.find_link.ensures ∙ c.in-Some.is))) in
    let is = held (own_of g.T.Weigh.weight_of g.T.Weigh.rank_of) i.store i.root i.map.links r c.args.key l (sym c.find_link.ensures ∙ c.in-Some.is) v.0 v.1 in
    ap Some (value-read i.store l.number c.value.result.now v.0 c.value.ensures v.1) ∙ sym is ∙ ap (value_under c.args.key) c.self.view_is

pub returns-in-None : goal.returns-in-None
returns-in-None g c =
    let i = c.self.inside in
    subst (λ xs. None ≡ value_under c.args.key xs) c.self.view_is
    (sym (not-held (own_of g.T.Weigh.weight_of g.T.Weigh.rank_of) i.store i.root i.map.links c.self.invariant c.args.key (sym c.find_link.ensures ∙ c.in-None.is)))
