use Rattle.std.proofs.Common.{ap, sym, ◌∙◌, Some, slice_get, arith, length}
use Rattle.std.specs.Prelude.{option_map}
use Rattle.node_rope.specs.Items.{own_of}
use Rattle.node_rope.proofs.ItemLemmas.{length-order}
use Rattle.node_rope.proofs.ShapeLemmas.{made-below}
use Rattle.node_rope.proofs.KeyLemmas.{value-made, value-read}
use Rattle.node_rope.proofs.SeenLemmas.{value-seen}
use Rattle.node_rope.proofs.rope.Rope.item_within.Goals as goal

pub returns-clause-value : goal.returns-clause-value
returns-clause-value g c =
    let i = c.self.inside in
    let found = c.in_ok-found.found in
    let v = value-made i.store found.link.number (made-below i.store found.link c.in_ok-found.ensures.made) in
    let seen = value-seen (own_of g.T.Weigh.weight_of g.T.Weigh.rank_of) i.store i.root i.map.links c.self.invariant found.place found.link v.0 c.in_ok-found.ensures.inside
    c.in_ok-found.ensures.found v.1 in
    ap (λ xs. option_map (λ x. x.1) (slice_get xs found.place)) (sym c.self.view_is) ∙ seen
    ∙ sym (ap Some (value-read i.store found.link.number c.value.result.now v.0 c.value.ensures v.1))

pub returns-in_err-found-clause-none : goal.returns-in_err-found-clause-none
returns-in_err-found-clause-none g c =
    let i = c.self.inside in
    rw c.from_residual.ensures (λ below. omega (arith, c.in_err-found.ensures.none below, length-order i.store i.root c.self.invariant.sound, ap length c.self.view_is))
