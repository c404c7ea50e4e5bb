use Rattle.std.proofs.Common.{Some, sym, ap, ◌∙◌, subst, arith}
use Rattle.block_map.specs.declared.map.BlockMap.{BlockMap}
use Rattle.node_rope.specs.declared.cells.Link.{Link}
use Rattle.node_rope.specs.Shapes.{shape_at}
use Rattle.node_rope.specs.Items.{IsRope, own_of}
use Rattle.node_rope.proofs.ShapeLemmas.{made-below}
use Rattle.node_rope.proofs.KeyLemmas.{held, value-made, value-read}
use Rattle.node_rope.proofs.ReweighLemmas.{still-trans}
use Rattle.node_rope.proofs.PutLemmas.{valued-count, valued-still, valued-sound, put-roped, put-list}
use Rattle.node_rope.proofs.items.refill.Goals as goal

pub set_value-old-requires : goal.set_value-old-requires
set_value-old-requires g c = c.requires.rope.mapped c.args.key c.args.link c.requires.held

pub set_own-requires-clause-made : goal.set_own-requires-clause-made
set_own-requires-clause-made g c = c.set_value-old.ensures.kept c.args.link (c.requires.rope.mapped c.args.key c.args.link c.requires.held)

pub set_own-requires-clause-sound : goal.set_own-requires-clause-sound
set_own-requires-clause-sound g c =
    let e = c.set_value-old.ensures in
    valued-sound c.args.store.now c.set_value-old.new.self c.args.root c.args.link c.args.value c.requires.rope.sound e.shapes e.values e.kept

pub set_own-requires-clause-few : goal.set_own-requires-clause-few
set_own-requires-clause-few g c =
    let e = c.set_value-old.ensures in
    omega (arith, c.requires.rope.few, valued-count c.args.store.now c.set_value-old.new.self c.args.root c.args.link c.args.value c.requires.rope.sound e.shapes e.values e.kept)

pub returns-clause-rope : goal.returns-clause-rope
returns-clause-rope g c =
    let a = c.args in let e = c.set_value-old.ensures in let o = c.set_own.ensures in let w = c.own_of-own.ensures in
    let same = still-trans _ _ _ (valued-still a.store.now c.set_value-old.new.self a.root a.link a.value c.requires.rope.sound e.shapes e.values e.kept) o.still in
    subst (λ (m : BlockMap Link). IsRope (own_of g.T.Weigh.weight_of g.T.Weigh.rank_of) c.set_own.new.store a.root m) (sym c.keep_at_hand.ensures)
    (put-roped (own_of g.T.Weigh.weight_of g.T.Weigh.rank_of) a.store.now c.set_own.new.store a.root a.map.now.links a.key a.link c.own_of-own.result a.value c.requires.rope
    c.requires.held o.sound same o.here
    (λ j ne. o.others j ne ∙ ap (λ ss. (shape_at ss j).own) e.shapes) (o.values ∙ e.values) (λ x h. o.kept x (e.kept x h)) (omega (arith, w.light)) (omega (arith, w.fits)) w.own)

pub returns-clause-old : goal.returns-clause-old
returns-clause-old g c =
    let a = c.args in let r = c.requires.rope in let e = c.set_value-old.ensures in
    let v = value-made a.store.now a.link.number (made-below a.store.now a.link (r.mapped a.key a.link c.requires.held)) in
    held (own_of g.T.Weigh.weight_of g.T.Weigh.rank_of) a.store.now a.root a.map.now.links r a.key a.link c.requires.held v.0 v.1
    ∙ ap Some (sym (value-read a.store.now a.link.number c.set_value-old.result v.0 e.result v.1))

pub returns-clause-put : goal.returns-clause-put
returns-clause-put g c =
    let a = c.args in let e = c.set_value-old.ensures in let o = c.set_own.ensures in let w = c.own_of-own.ensures in
    let same = still-trans _ _ _ (valued-still a.store.now c.set_value-old.new.self a.root a.link a.value c.requires.rope.sound e.shapes e.values e.kept) o.still in
    put-list (own_of g.T.Weigh.weight_of g.T.Weigh.rank_of) a.store.now c.set_own.new.store a.root a.map.now.links a.key a.link c.own_of-own.result a.value c.requires.rope
    c.requires.held o.sound same o.here
    (λ j ne. o.others j ne ∙ ap (λ ss. (shape_at ss j).own) e.shapes) (o.values ∙ e.values) (λ x h. o.kept x (e.kept x h)) (omega (arith, w.light)) (omega (arith, w.fits)) w.own
