use Rattle.std.proofs.Common.{refl, sym, ap, ◌∙◌, slice_set, map}
use Rattle.node_rope.specs.Shaped.{shape_of, node_value}
use Rattle.node_rope.proofs.FilingLemmas.{filed-had}
use Rattle.node_rope.proofs.ListedLemmas.{filed-set, map-set, map-same}
use Rattle.node_rope.proofs.store.Store.set_shape.Goals as goal

pub invariant_of-self : goal.invariant_of-self
invariant_of-self g c =
    let s = c.args.self.now in
    let r = c.at_mut.result.now in
    record {
      counted = s.counted ∙ sym (lib.ListN.length-set s.pile.values c.args.link.number (record r { shape = c.new.result }));
      filed = ∣ filed-set s.newest s.pile.values s.pile.moorings c.args.link.number (record r { shape = c.new.result }) r c.at_mut.ensures.value refl
          (filed-had s.newest s.pile.values s.pile.moorings s.filed) ∣₁;
    }

pub returns-clause-shapes : goal.returns-clause-shapes
returns-clause-shapes g c =
    map-set shape_of c.args.self.now.pile.values c.args.link.number (record c.at_mut.result.now { shape = c.new.result })
    ∙ ap (λ h. slice_set (map shape_of c.args.self.now.pile.values) c.args.link.number h) c.new.ensures

pub returns-clause-values : goal.returns-clause-values
returns-clause-values g c =
    map-same node_value c.args.self.now.pile.values c.args.link.number (record c.at_mut.result.now { shape = c.new.result }) c.at_mut.result.now c.at_mut.ensures.value refl

pub returns-clause-count : goal.returns-clause-count
returns-clause-count g c = lib.ListN.length-set c.args.self.now.pile.values c.args.link.number (record c.at_mut.result.now { shape = c.new.result })
