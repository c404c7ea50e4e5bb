use Rattle.std.proofs.Common.{length, ap, arith, subst}
use Rattle.node_rope.specs.Made.{shapes_of}
use Rattle.node_rope.specs.Shapes.{link_number, tree_of}
use Rattle.node_rope.specs.Walk.{count_of}
use Rattle.node_rope.specs.Items.{own_of}
use Rattle.node_rope.proofs.ItemLemmas.{length-items}
use Rattle.node_rope.specs.Places.{AreKeysDistinct}
use Rattle.node_rope.proofs.OnceLemmas.{keys-once}
use Rattle.node_rope.proofs.rope.Rope.len.Goals as goal

pub returns-in-Some-clause-length : goal.returns-in-Some-clause-length
returns-in-Some-clause-length g c =
    let i = c.self.inside in
    let items = length-items i.store i.root c.self.invariant.sound in
    let root = ap (λ o. count_of (tree_of (shapes_of i.store)) (link_number o)) c.in-Some.is in
    omega (arith, items, root, ap length c.self.view_is, ap (λ h. h.count) c.shape.ensures)

pub returns-in-Some-clause-distinct : goal.returns-in-Some-clause-distinct
returns-in-Some-clause-distinct g c =
    let i = c.self.inside in
    subst (λ xs. AreKeysDistinct xs) c.self.view_is (keys-once (own_of g.T.Weigh.weight_of g.T.Weigh.rank_of) i.store i.root i.map.links c.self.invariant)

pub returns-in-None-clause-distinct : goal.returns-in-None-clause-distinct
returns-in-None-clause-distinct g c =
    let i = c.self.inside in
    subst (λ xs. AreKeysDistinct xs) c.self.view_is (keys-once (own_of g.T.Weigh.weight_of g.T.Weigh.rank_of) i.store i.root i.map.links c.self.invariant)
