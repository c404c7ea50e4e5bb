use Rattle.std.proofs.Common.{◌∙◌, arith}
use Rattle.node_rope.proofs.BesideLemmas.{beside-rising, beside-small, beside-grown, beside-walk}
use Rattle.node_rope.proofs.attach.attach.Goals as goal

pub raise-requires-clause-rising : goal.raise-requires-clause-rising
raise-requires-clause-rising g c =
    let a = c.args in let q = c.requires in let j = c.in_ok-link.ensures.joined in
    beside-rising a.side a.store.now c.join.new.store a.root a.at c.in_ok-link.link a.key a.own c.new_shape-shape.result c.new_shape-shape.ensures q.sound q.made
    (omega (arith, q.fits)) j.shapes j.number j.made j.count c.join.ensures.kept

pub raise-requires-clause-small : goal.raise-requires-clause-small
raise-requires-clause-small g c =
    let a = c.args in let q = c.requires in let j = c.in_ok-link.ensures.joined in
    beside-small a.side a.store.now c.join.new.store a.root a.at c.in_ok-link.link a.key a.own c.new_shape-shape.result c.new_shape-shape.ensures q.sound q.made
    (omega (arith, q.fits)) j.shapes j.number j.made j.count c.join.ensures.kept (omega (arith, q.few)) q.small

pub returns-clause-grown : goal.returns-clause-grown
returns-clause-grown g c =
    let a = c.args in let q = c.requires in let j = c.in_ok-link.ensures.joined in let r = c.raise.ensures in
    beside-grown a.side a.store.now c.join.new.store a.root a.at c.in_ok-link.link a.key a.own c.new_shape-shape.result c.new_shape-shape.ensures q.sound q.made
    (omega (arith, q.fits)) j.shapes j.number j.made j.count c.join.ensures.kept c.raise.new.store r.counted r.weighed r.ranked r.links r.raised r.kept r.count a.value
    (r.values ∙ j.values)

pub returns-clause-walk : goal.returns-clause-walk
returns-clause-walk g c =
    let a = c.args in let q = c.requires in let j = c.in_ok-link.ensures.joined in let r = c.raise.ensures in
    beside-walk a.side a.store.now c.join.new.store a.root a.at c.in_ok-link.link a.key a.own c.new_shape-shape.result c.new_shape-shape.ensures q.sound q.made
    (omega (arith, q.fits)) j.shapes j.number j.made j.count c.join.ensures.kept c.raise.new.store r.counted r.weighed r.ranked r.links r.raised r.kept r.count
