use Rattle.std.proofs.Common.{◌≡◌, None, Some, sym, ap, ◌∙◌, arith}
use Rattle.block_map.specs.Contents.{value_of}
use Rattle.node_rope.specs.Items.{own_of}
use Rattle.node_rope.proofs.LightLemmas.{are-small}
use Rattle.node_rope.proofs.KeyLemmas.{regrown, grown-roped, alone}
use Rattle.node_rope.proofs.EffectLemmas.{list-beside}
use Rattle.node_rope.proofs.AlikeLemmas.{alike-roped, alike-list}
use Rattle.node_rope.proofs.items.grow.Goals as goal

pub attach-requires-clause-made : goal.attach-requires-clause-made
attach-requires-clause-made g c = c.requires.rope.mapped c.args.at c.args.link c.requires.held

pub attach-requires-clause-small : goal.attach-requires-clause-small
attach-requires-clause-small g c =
    let r = c.requires.rope in
    are-small c.args.store.now c.args.root.now r.sound r.few r.light c.own_of-own.result.weight (omega (arith, c.own_of-own.ensures.light))

pub returns-in-Err-clause-rope : goal.returns-in-Err-clause-rope
returns-in-Err-clause-rope g c =
    let no = c.in-Err.ensures.refused in
    alike-roped (own_of g.T.Weigh.weight_of g.T.Weigh.rank_of) c.args.store.now c.attach.new.store c.args.root.now c.args.map.now.links c.attach.new.map.links c.requires.rope
    no.alike no.links

pub returns-in-Err-clause-refused : goal.returns-in-Err-clause-refused
returns-in-Err-clause-refused g c =
    let no = c.in-Err.ensures.refused in
    (no.value, alike-list c.args.store.now c.attach.new.store c.args.root.now c.requires.rope.sound no.alike)

pub returns-clause-rope : goal.returns-clause-rope
returns-clause-rope g c =
    let a = c.args in let e = c.rebalance-top.ensures in let w = c.own_of-own.ensures in
    let v = c.rebalance-top.new.store in
    let grown = regrown a.store.now c.attach.new.store v a.root.now c.rebalance-top.result a.key c.own_of-own.result a.value c.in-Ok.node c.in-Ok.ensures.grown e in
    grown-roped (own_of g.T.Weigh.weight_of g.T.Weigh.rank_of) a.store.now v a.root.now c.rebalance-top.result a.map.now.links c.attach.new.map.links a.key c.own_of-own.result
    a.value c.in-Ok.node c.requires.rope grown (λ l h. e.kept l (c.attach.ensures.kept l h))
    (omega (arith, c.requires.room)) (omega (arith, w.light)) (omega (arith, w.fits)) w.own c.requires.fresh c.in-Ok.ensures.set

pub returns-clause-placed : goal.returns-clause-placed
returns-clause-placed g c =
    let a = c.args in let e = c.rebalance-top.ensures in
    let v = c.rebalance-top.new.store in
    let grown = regrown a.store.now c.attach.new.store v a.root.now c.rebalance-top.result a.key c.own_of-own.result a.value c.in-Ok.node c.in-Ok.ensures.grown e in
    list-beside a.store.now v a.root.now c.rebalance-top.result c.requires.rope.sound a.key c.own_of-own.result a.value c.in-Ok.node grown a.at a.link.number
    (alone (own_of g.T.Weigh.weight_of g.T.Weigh.rank_of) a.store.now a.root.now a.map.now.links c.requires.rope a.at a.link c.requires.held) a.side
    (e.same_order ∙ c.in-Ok.ensures.walk)

pub returns-clause-held : goal.returns-clause-held
returns-clause-held g c =
    let a = c.args in
    c.in-Ok.ensures.set.others a.at (λ e. (let no : Some a.link ≡ None = sym c.requires.held ∙ ap (value_of a.map.now.links) e ∙ c.requires.fresh in absurd (cc))) ∙ c.requires.held
