use Rattle.std.proofs.Common.{ℕ, drop, Some, sym, ap, ◌∙◌}
use Rattle.std.specs.Prelude.{option_map}
use Rattle.node_rope.specs.Made.{shapes_of}
use Rattle.node_rope.specs.Shapes.{shape_at, link_number}
use Rattle.node_rope.specs.Items.{own_of}
use Rattle.node_rope.specs.Places.{first_low_key}
use Rattle.node_rope.proofs.LowItemLemmas.{first-seen}
use Rattle.node_rope.proofs.rope.Rope.first_low.Goals as goal

pub returns-in-Some : goal.returns-in-Some
returns-in-Some g c =
    let i = c.self.inside in
    let key = λ (x : ℕ). (shape_at (shapes_of i.store) x).key in
    let seen = first-seen (own_of g.T.Weigh.weight_of g.T.Weigh.rank_of) i.store i.root i.map.links c.self.invariant c.args.most c.args.from in
    ap (λ h. Some h.key) c.shape.ensures ∙ ap (option_map key) (ap link_number (sym c.in-Some.is) ∙ c.first_low_node.ensures.found) ∙ sym seen
    ∙ ap (λ xs. first_low_key g.T.Weigh.rank_of c.args.most (drop c.args.from xs)) c.self.view_is

pub returns-in-None : goal.returns-in-None
returns-in-None g c =
    let i = c.self.inside in
    let key = λ (x : ℕ). (shape_at (shapes_of i.store) x).key in
    let seen = first-seen (own_of g.T.Weigh.weight_of g.T.Weigh.rank_of) i.store i.root i.map.links c.self.invariant c.args.most c.args.from in
    ap (option_map key) (ap link_number (sym c.in-None.is) ∙ c.first_low_node.ensures.found) ∙ sym seen
    ∙ ap (λ xs. first_low_key g.T.Weigh.rank_of c.args.most (drop c.args.from xs)) c.self.view_is
