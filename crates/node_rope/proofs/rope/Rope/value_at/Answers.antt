use Rattle.std.proofs.Common.{ap, sym, ◌∙◌, Some, slice_get}
use Rattle.std.specs.Prelude.{option_map}
use Rattle.node_rope.specs.Items.{own_of}
use Rattle.node_rope.proofs.ShapeLemmas.{made-below}
use Rattle.node_rope.proofs.KeyLemmas.{value-made, value-read}
use Rattle.node_rope.proofs.SeenLemmas.{value-seen, value-past}
use Rattle.node_rope.proofs.rope.Rope.value_at.Goals as goal

pub returns-in-Some : goal.returns-in-Some
returns-in-Some g c =
    let i = c.self.inside in
    let l = c.in-Some.link in
    let v = value-made i.store l.number (made-below i.store l c.in-Some.ensures.made) in
    let seen = value-seen (own_of g.T.Weigh.weight_of g.T.Weigh.rank_of) i.store i.root i.map.links c.self.invariant c.args.place l v.0 c.in-Some.ensures.inside
    c.in-Some.ensures.found v.1 in
    ap Some (value-read i.store l.number c.value.result.now v.0 c.value.ensures v.1) ∙ sym seen ∙ ap (λ xs. option_map (λ x. x.1) (slice_get xs c.args.place)) c.self.view_is

pub returns-in-None : goal.returns-in-None
returns-in-None g c =
    let i = c.self.inside in
    let seen = value-past (own_of g.T.Weigh.weight_of g.T.Weigh.rank_of) i.store i.root i.map.links c.self.invariant c.args.place c.in-None.ensures.none in
    sym seen ∙ ap (λ xs. option_map (λ x. x.1) (slice_get xs c.args.place)) c.self.view_is
