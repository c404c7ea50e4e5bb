use Rattle.std.proofs.Common.{refl, sym, ap, ◌∙◌, slice_set, map, arith}
use Rattle.node_rope.specs.Shaped.{shape_of, node_value}
use Rattle.node_rope.specs.Shapes.{lone_shape}
use Rattle.node_rope.specs.Reweighed.{reweighed_node}
use Rattle.node_rope.proofs.BoxLemmas.{lies-below}
use Rattle.node_rope.proofs.FilingLemmas.{filed-had}
use Rattle.node_rope.proofs.ListedLemmas.{filed-set, got-mapped, map-set, map-same}
use Rattle.node_rope.proofs.store.Store.shift.Goals as goal

-- the node's shape is that of the list
pub shift-requires : goal.shift-requires
shift-requires g c =
    let p = c.args.self.now.pile in
    let pair = p.paired in
    let h = lies-below p.moorings c.args.link.number c.args.link.spot.address c.requires.made in
    let is = got-mapped shape_of p.values c.args.link.number c.at_mut-node.result.now lone_shape c.at_mut-node.ensures.value (omega arith) in
    record { fits = omega (arith, c.requires.fits, ap (λ h. h.weight) is); covers = omega (arith, c.requires.covers, ap (λ h. h.weight) is) }

pub invariant_of-self : goal.invariant_of-self
invariant_of-self g c =
    let s = c.args.self.now in
    let r = c.at_mut-node.result.now in
    record {
      counted = s.counted ∙ sym (lib.ListN.length-set s.pile.values c.args.link.number (record r { shape = c.shift.new.self }));
      filed = ∣ filed-set s.newest s.pile.values s.pile.moorings c.args.link.number (record r { shape = c.shift.new.self }) r c.at_mut-node.ensures.value refl
          (filed-had s.newest s.pile.values s.pile.moorings s.filed) ∣₁;
    }

pub returns-clause-parent : goal.returns-clause-parent
returns-clause-parent g c =
    let p = c.args.self.now.pile in
    let pair = p.paired in
    let h = lies-below p.moorings c.args.link.number c.args.link.spot.address c.requires.made in
    c.parent-up.ensures ∙ ap (λ h. h.parent) (got-mapped shape_of p.values c.args.link.number c.at_mut-node.result.now lone_shape c.at_mut-node.ensures.value (omega arith))

pub returns-clause-shapes : goal.returns-clause-shapes
returns-clause-shapes g c =
    let p = c.args.self.now.pile in
    let pair = p.paired in
    let h = lies-below p.moorings c.args.link.number c.args.link.spot.address c.requires.made in
    let is = got-mapped shape_of p.values c.args.link.number c.at_mut-node.result.now lone_shape c.at_mut-node.ensures.value (omega arith) in
    map-set shape_of p.values c.args.link.number (record c.at_mut-node.result.now { shape = c.shift.new.self })
    ∙ ap (λ h. slice_set (map shape_of p.values) c.args.link.number h) (c.shift.ensures ∙ ap (reweighed_node c.args.less c.args.more) is)

pub returns-clause-values : goal.returns-clause-values
returns-clause-values g c =
    map-same node_value c.args.self.now.pile.values c.args.link.number
    (record c.at_mut-node.result.now { shape = c.shift.new.self }) c.at_mut-node.result.now c.at_mut-node.ensures.value refl

pub returns-clause-count : goal.returns-clause-count
returns-clause-count g c = lib.ListN.length-set c.args.self.now.pile.values c.args.link.number (record c.at_mut-node.result.now { shape = c.shift.new.self })
