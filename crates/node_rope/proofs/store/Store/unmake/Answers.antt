use Rattle.std.proofs.Common.{◌≡◌, ℕ, ◌-◌, suc, ap, ◌∙◌, [], ◌∷◌, ◌++◌, length, map, subst, arith}
use Rattle.std.proofs.lemmas.List.{map-append}
use lib.ListN.{length-append}
use Rattle.node_rope.specs.Heaps.{LiesAt}
use Rattle.node_rope.specs.Shaped.{shape_of, node_value}
use Rattle.node_rope.specs.Filed.{MooringsLead, IsFiled}
use Rattle.node_rope.proofs.BoxLemmas.{end-of, lies-shorter}
use Rattle.node_rope.proofs.FilingLemmas.{filed-had}
use Rattle.node_rope.proofs.ListedLemmas.{filed-less}
use Rattle.node_rope.proofs.store.Store.unmake.Goals as goal

pub take-value-requires : goal.take-value-requires
take-value-requires g c =
    let s = c.args.self.now in
    let p = s.pile in
    let pair = p.paired in
    let full : length p.values ≡ suc (length p.moorings - 1) = omega (arith, pair, c.requires) in
    let at = subst (λ (n : ℕ). MooringsLead p.moorings s.newest n) full (filed-had s.newest p.values p.moorings s.filed).last in
    let e = end-of p.moorings (length p.moorings - 1) s.newest.address (omega (arith, pair, full)) at in
    e.1

pub invariant_of-self : goal.invariant_of-self
invariant_of-self g c =
    let s = c.args.self.now in
    let p = s.pile in
    let n = c.take-value.new.self in
    let w = c.take-value.result in
    let e = c.take-value.ensures in
    let f = subst (λ ms. IsFiled s.newest (n.values ++ w ∷ []) ms) e.moorings
    (subst (λ ns. IsFiled s.newest ns p.moorings) e.values (filed-had s.newest p.values p.moorings s.filed)) in
    record {
      counted = omega (arith, s.counted, ap length e.values, length-append n.values (w ∷ []));
      filed = ∣ filed-less s.newest n.values n.moorings w (s.newest.address, s.alloc) n.paired f ∣₁;
    }

pub returns : goal.returns
returns g c =
    let s = c.args.self.now in
    let n = c.take-value.new.self in
    let w = c.take-value.result in
    let e = c.take-value.ensures in
    let pair = n.paired in
    record {
      shape = w.shape;
      shapes = ap (map shape_of) e.values ∙ map-append shape_of n.values (w ∷ []);
      values = ap (map node_value) e.values ∙ map-append node_value n.values (w ∷ []);
      kept = λ l at below. lies-shorter n.moorings ((s.newest.address, s.alloc) ∷ []) l.number l.spot.address (omega (arith, below, pair))
          (subst (λ ms. LiesAt ms l.number l.spot.address) e.moorings at);
    }
