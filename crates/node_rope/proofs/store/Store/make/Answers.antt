use Rattle.std.proofs.Common.{refl, ap, ◌∙◌, map, [], ◌∷◌, ◌++◌, length, arith}
use Rattle.std.proofs.lemmas.List.{map-append}
use Rattle.node_rope.specs.declared.cells.Node.{Node}
use Rattle.node_rope.specs.Shaped.{shape_of, node_value}
use Rattle.node_rope.proofs.BoxLemmas.{lies-longer, lies-last}
use Rattle.node_rope.proofs.FilingLemmas.{filed-had}
use Rattle.node_rope.proofs.ListedLemmas.{filed-more}
use Rattle.node_rope.proofs.store.Store.make.Goals as goal

pub invariant_of-self : goal.invariant_of-self
invariant_of-self g c =
    let s = c.args.self.now in
    let vs = s.pile.values in
    let ms = s.pile.moorings in
    let w : Node g.row.T.Denot = record { shape = c.new.result; older = s.newest; value = c.args.value } in
    let values = c.add.ensures.values ∙ ap (λ n. vs ++ n ∷ []) c.in-Ok.ensures.ok in
    let f = filed-more s.newest vs ms w c.add.result (c.add.result.address, c.in-Ok.boxed.alloc) s.pile.paired (filed-had s.newest vs ms s.filed) refl refl in
    record { counted = omega (arith, s.counted, ap length values, lib.ListN.length-append vs (w ∷ [])); filed = ∣ rw (values, c.add.ensures.moorings) f ∣₁ }

pub returns-clause-made : goal.returns-clause-made
returns-clause-made g c =
    let s = c.args.self.now in
    let vs = s.pile.values in
    let w : Node g.row.T.Denot = record { shape = c.new.result; older = s.newest; value = c.args.value } in
    let values = c.add.ensures.values ∙ ap (λ n. vs ++ n ∷ []) c.in-Ok.ensures.ok in
    let pair = s.pile.paired in
    let at = lies-last s.pile.moorings (c.add.result.address, c.in-Ok.boxed.alloc) s.count (omega (arith, s.counted, pair)) in
    record {
      shapes = ap (map shape_of) values ∙ map-append shape_of vs (w ∷ []) ∙ ap (λ h. map shape_of vs ++ h ∷ []) c.new.ensures;
      values = ap (map node_value) values ∙ map-append node_value vs (w ∷ []);
      number = s.counted;
      made = rw c.add.ensures.moorings at;
      count = ap length values ∙ lib.ListN.length-append vs (w ∷ []);
    }

pub returns-clause-kept : goal.returns-clause-kept
returns-clause-kept g c l at = rw c.add.ensures.moorings (lies-longer c.args.self.now.pile.moorings _ l.number l.spot.address at)
