use Rattle.std.proofs.Common.{ap, sym, ◌∙◌, Some, slice_get}
use Rattle.std.specs.Map.{keys_of}
use Rattle.node_rope.specs.Items.{own_of}
use Rattle.node_rope.proofs.SeenLemmas.{key-seen, key-past}
use Rattle.node_rope.proofs.rope.Rope.key_at.Goals as goal

pub returns-in-Some : goal.returns-in-Some
returns-in-Some g c =
    let i = c.self.inside in
    let seen = key-seen (own_of g.T.Weigh.weight_of g.T.Weigh.rank_of) i.store i.root i.map.links c.self.invariant c.args.place c.in-Some.link c.in-Some.ensures.inside
    c.in-Some.ensures.found in
    ap (λ h. Some h.key) c.shape.ensures ∙ sym seen ∙ ap (λ xs. slice_get (keys_of xs) c.args.place) c.self.view_is

pub returns-in-None : goal.returns-in-None
returns-in-None g c =
    let i = c.self.inside in
    let seen = key-past (own_of g.T.Weigh.weight_of g.T.Weigh.rank_of) i.store i.root i.map.links c.self.invariant c.args.place c.in-None.ensures.none in
    sym seen ∙ ap (λ xs. slice_get (keys_of xs) c.args.place) c.self.view_is
