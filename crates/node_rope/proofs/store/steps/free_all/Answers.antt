use Rattle.std.proofs.Common.{◌≡◌, ℕ, ◌-◌, suc, ap, [], ◌∷◌, ◌++◌, length, subst, arith}
use lib.ListN.{length-append}
use Rattle.node_rope.specs.Filed.{MooringsLead, IsFiled}
use Rattle.node_rope.proofs.BoxLemmas.{end-of}
use Rattle.node_rope.proofs.ListedLemmas.{filed-less}
use Rattle.node_rope.proofs.store.steps.free_all.Goals as goal

pub take-node-requires : goal.take-node-requires
take-node-requires g c =
    let p = c.nodes.pile in
    let pair = p.paired in
    let i = c.nodes.invariant in
    let full : length p.values ≡ suc (length p.moorings - 1) = omega (arith, pair, i.counted) in
    let at = subst (λ (n : ℕ). MooringsLead p.moorings c.nodes.newest n) full i.filed.last in
    let e = end-of p.moorings (length p.moorings - 1) c.nodes.newest.address (omega (arith, pair, full)) at in
    e.1

pub nodes-preserved : goal.nodes-preserved
nodes-preserved g c =
    let p = c.nodes.pile in
    let n = c.take-node.new.self in
    let w = c.take-node.result in
    let i = c.nodes.invariant in
    let f = subst (λ ms. IsFiled c.nodes.newest (n.values ++ w ∷ []) ms) c.take-node.ensures.moorings
    (subst (λ ns. IsFiled c.nodes.newest ns p.moorings) c.take-node.ensures.values i.filed) in
    let less = filed-less c.nodes.newest n.values n.moorings w (c.nodes.newest.address, c.args.alloc) n.paired f in
    record {
      counted = omega (arith, i.counted, ap length c.take-node.ensures.values, length-append n.values (w ∷ []));
      filed = less;
    }
