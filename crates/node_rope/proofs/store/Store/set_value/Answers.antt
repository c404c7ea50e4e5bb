use Rattle.std.proofs.Common.{refl, sym, ap, ◌∙◌, slice_set, map}
use Rattle.node_rope.specs.Shaped.{shape_of, node_value}
use Rattle.node_rope.proofs.FilingLemmas.{filed-had}
use Rattle.node_rope.proofs.ListedLemmas.{filed-set, map-set, map-same}
use Rattle.node_rope.proofs.store.Store.set_value.Goals as goal

pub invariant_of-self : goal.invariant_of-self
invariant_of-self g c =
    let s = c.args.self.now in
    let r = c.at_mut.result.now in
    record {
      counted = s.counted ∙ sym (lib.ListN.length-set s.pile.values c.args.link.number (record r { value = c.replace.new.dest }));
      filed = ∣ filed-set s.newest s.pile.values s.pile.moorings c.args.link.number (record r { value = c.replace.new.dest }) r c.at_mut.ensures.value refl
          (filed-had s.newest s.pile.values s.pile.moorings s.filed) ∣₁;
    }

pub returns-clause-shapes : goal.returns-clause-shapes
returns-clause-shapes g c =
    map-same shape_of c.args.self.now.pile.values c.args.link.number (record c.at_mut.result.now { value = c.replace.new.dest }) c.at_mut.result.now c.at_mut.ensures.value refl

pub returns-clause-values : goal.returns-clause-values
returns-clause-values g c =
    map-set node_value c.args.self.now.pile.values c.args.link.number (record c.at_mut.result.now { value = c.replace.new.dest })
    ∙ ap (λ v. slice_set (map node_value c.args.self.now.pile.values) c.args.link.number v) c.replace.ensures.after
