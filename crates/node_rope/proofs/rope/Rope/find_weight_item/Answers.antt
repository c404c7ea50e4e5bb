use Rattle.std.proofs.Common.{◌≡◌, Some, sym, ap, ◌∙◌, subst, arith}
use Rattle.node_rope.specs.Made.{shapes_of}
use Rattle.node_rope.specs.Shapes.{shape_at}
use Rattle.node_rope.specs.Places.{weight_sum, IsUnit}
use Rattle.node_rope.specs.Items.{own_of, value_under}
use Rattle.node_rope.proofs.KeyLemmas.{node-holds}
use Rattle.node_rope.proofs.SeenLemmas.{weighs-all, unit}
use Rattle.node_rope.proofs.rope.Rope.find_weight_item.Goals as goal

pub returns-in_err-unit-clause-none : goal.returns-in_err-unit-clause-none
returns-in_err-unit-clause-none g c =
    let i = c.self.inside in
    let wt = own_of g.T.Weigh.weight_of g.T.Weigh.rank_of in
    rw c.from_residual.ensures
    (omega (arith, c.in_err-unit.ensures.none, weighs-all wt i.store i.root i.map.links c.self.invariant, ap (weight_sum g.T.Weigh.weight_of) c.self.view_is))

pub returns-clause-some : goal.returns-clause-some
returns-clause-some g c =
    let i = c.self.inside in
    let wt = own_of g.T.Weigh.weight_of g.T.Weigh.rank_of in
    let u = c.in_ok-unit.unit in
    let is = unit wt i.store i.root i.map.links c.self.invariant c.args.w u.link u.inside c.in_ok-unit.ensures.found in
    let seen = subst (λ xs. IsUnit g.T.Weigh.weight_of xs c.args.w (shape_at (shapes_of i.store) u.link.number).key u.inside) c.self.view_is is in
    subst (λ k. IsUnit g.T.Weigh.weight_of c.args.self.now c.args.w k u.inside) (ap (λ h. h.key) (sym c.shape-key.ensures)) seen

pub returns-clause-value : goal.returns-clause-value
returns-clause-value g c =
    let i = c.self.inside in
    let holds = node-holds (own_of g.T.Weigh.weight_of g.T.Weigh.rank_of) i.store i.root i.map.links c.self.invariant c.in_ok-unit.unit.link c.in_ok-unit.ensures.made
    c.value.result.now c.value.ensures in
    ap (λ h. value_under h.key c.args.self.now) c.shape-key.ensures
    ∙ subst (λ xs. value_under (shape_at (shapes_of i.store) c.in_ok-unit.unit.link.number).key xs ≡ Some c.value.result.now) c.self.view_is holds
