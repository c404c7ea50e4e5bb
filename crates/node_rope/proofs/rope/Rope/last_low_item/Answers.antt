use Rattle.std.proofs.Common.{◌≡◌, ℕ, take, Some, sym, ap, ◌∙◌, subst}
use Rattle.std.specs.Prelude.{option_map}
use Rattle.node_rope.specs.Made.{shapes_of}
use Rattle.node_rope.specs.Shapes.{shape_at, link_number}
use Rattle.node_rope.specs.Items.{own_of, value_under}
use Rattle.node_rope.specs.Places.{last_low_key}
use Rattle.node_rope.proofs.KeyLemmas.{node-holds}
use Rattle.node_rope.proofs.LowItemLemmas.{last-seen}
use Rattle.node_rope.proofs.rope.Rope.last_low_item.Goals as goal

pub returns-in-Some-clause-low : goal.returns-in-Some-clause-low
returns-in-Some-clause-low g c =
    let i = c.self.inside in
    let key = λ (x : ℕ). (shape_at (shapes_of i.store) x).key in
    let seen = last-seen (own_of g.T.Weigh.weight_of g.T.Weigh.rank_of) i.store i.root i.map.links c.self.invariant c.args.most c.args.to in
    ap (λ h. Some h.key) c.shape.ensures ∙ ap (option_map key) (ap link_number (sym c.in-Some.is) ∙ c.last_low_node.ensures.found) ∙ sym seen
    ∙ ap (λ xs. last_low_key g.T.Weigh.rank_of c.args.most (take c.args.to xs)) c.self.view_is

pub returns-in-None-clause-low : goal.returns-in-None-clause-low
returns-in-None-clause-low g c =
    let i = c.self.inside in
    let key = λ (x : ℕ). (shape_at (shapes_of i.store) x).key in
    let seen = last-seen (own_of g.T.Weigh.weight_of g.T.Weigh.rank_of) i.store i.root i.map.links c.self.invariant c.args.most c.args.to in
    ap (option_map key) (ap link_number (sym c.in-None.is) ∙ c.last_low_node.ensures.found) ∙ sym seen
    ∙ ap (λ xs. last_low_key g.T.Weigh.rank_of c.args.most (take c.args.to xs)) c.self.view_is

pub returns-in-Some-clause-value : goal.returns-in-Some-clause-value
returns-in-Some-clause-value g c =
    let i = c.self.inside in
    let l = c.in-Some.link in
    let made = c.last_low_node.ensures.made l c.in-Some.is in
    let holds = node-holds (own_of g.T.Weigh.weight_of g.T.Weigh.rank_of) i.store i.root i.map.links c.self.invariant l made c.value.result.now c.value.ensures in
    ap (λ h. value_under h.key c.args.self.now) c.shape.ensures
    ∙ subst (λ xs. value_under (shape_at (shapes_of i.store) l.number).key xs ≡ Some c.value.result.now) c.self.view_is holds
