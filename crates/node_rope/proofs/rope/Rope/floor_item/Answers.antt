use Rattle.std.proofs.Common.{None, Some, ap, sym, ◌∙◌, subst}
use Rattle.node_rope.specs.Items.{own_of, value_under}
use Rattle.node_rope.specs.Places.{IsFloor}
use Rattle.node_rope.proofs.ShapeLemmas.{made-below}
use Rattle.node_rope.proofs.KeyLemmas.{held, value-made, value-read}
use Rattle.node_rope.proofs.SeenLemmas.{floor-seen}
use Rattle.node_rope.proofs.rope.Rope.floor_item.Goals as goal

pub value-requires : goal.value-requires
value-requires g c = c.self.invariant.mapped c.in_ok-found.found c.in_ok-found.link c.in_ok-found.ensures.link

pub returns-clause-floor : goal.returns-clause-floor
returns-clause-floor g c =
    let i = c.self.inside in
    let k = c.in_ok-found.found in
    subst (λ xs. IsFloor xs c.args.key (Some k)) c.self.view_is
    (floor-seen (own_of g.T.Weigh.weight_of g.T.Weigh.rank_of) i.store i.root i.map.links c.self.invariant c.args.key (Some k) c.in_ok-found.ensures.floor)

pub returns-clause-value : goal.returns-clause-value
returns-clause-value g c =
    let i = c.self.inside in
    let k = c.in_ok-found.found in
    let l = c.in_ok-found.link in
    let at = c.in_ok-found.ensures.link in
    let r = c.self.invariant in
    let v = value-made i.store l.number (made-below i.store l (r.mapped k l at)) in
    let is = held (own_of g.T.Weigh.weight_of g.T.Weigh.rank_of) i.store i.root i.map.links r k l at v.0 v.1 in
    sym (ap (value_under k) c.self.view_is) ∙ is ∙ ap Some (sym (value-read i.store l.number c.value.result.now v.0 c.value.ensures v.1))

pub returns-in_err-found-clause-floor : goal.returns-in_err-found-clause-floor
returns-in_err-found-clause-floor g c =
    let i = c.self.inside in
    rw c.from_residual.ensures
    (subst (λ xs. IsFloor xs c.args.key None) c.self.view_is
    (floor-seen (own_of g.T.Weigh.weight_of g.T.Weigh.rank_of) i.store i.root i.map.links c.self.invariant c.args.key None c.in_err-found.ensures.floor))
