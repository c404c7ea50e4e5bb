use Rattle.std.proofs.Common.{◌≡◌, ◌+◌, ◌-◌, ◌<◌, length, sym, ap, subst, rules, arith}
use Rattle.std.specs.Prelude.{string_bytes}
use Rattle.std.specs.Str.{chars}
use Rattle.cluster_text.specs.Parts.{IsSpot, scalar_count}
use Rattle.cluster_text.proofs.PartLemmas.{length-le-scalar_count, scalar_count-none}
use Rattle.cluster_text.proofs.SpotLemmas.{spot-index}
use Rattle.cluster_text.proofs.TreeLemmas.{left_parts, left_scalars, lengths_are, scalars_are, spot-here, spot-left, spot-right}
use Rattle.cluster_text.proofs.tree.Tree.+find_spot.Goals as goal

pub unreachable-requires : goal.unreachable-requires
unreachable-requires t c = absurd (omega (arith, c.requires.within, ap scalar_count c.in_default.ensures.none, scalar_count-none))

pub find_spot-requires : goal.find_spot-requires
find_spot-requires t c =
    let node = c.in-Some.node.now in
    let is = c.in-Some.ensures.some in
    let lengths = lengths_are _ node.left node.part node.right is in
    let counts = scalars_are _ node.left node.part node.right is in
    let before = left_scalars _ node.left node.part node.right is c.requires.few _ c.scalars-before.ensures in
    (search (rules, lengths), (omega (arith, c.if-at-before.true, before), omega (arith, counts, c.requires.few)))

pub returns-then-at-before : goal.returns-then-at-before
returns-then-at-before t c =
    let node = c.in-Some.node.now in
    spot-left _ node.left node.part node.right c.in-Some.ensures.some _ _ _ c.find_spot.ensures

pub returns-then-within-node : goal.returns-then-within-node
returns-then-within-node t c =
    let node = c.in-Some.node.now in
    let is = c.in-Some.ensures.some in
    let before = left_scalars _ node.left node.part node.right is c.requires.few _ c.scalars-before.ensures in
    let part = left_parts _ node.left node.part node.right is c.requires.few _ c.len-part.ensures in
    let place : c.args.at ≡ scalar_count node.left + (c.args.at - c.scalars-before.result) = omega (arith, before, c.if-at-before.false) in
    let fits : c.args.at - c.scalars-before.result < length (chars (string_bytes node.part.text)) = omega (arith, c.if-within-node.true, node.part.scalars_are) in
    subst (λ n. IsSpot c.args.self.now c.args.at n (c.args.at - c.scalars-before.result)) (sym part)
    (spot-here _ node.left node.part node.right is c.args.at _ place fits)

pub find_spot-spot-requires : goal.find_spot-spot-requires
find_spot-spot-requires t c =
    let node = c.in-Some.node.now in
    let is = c.in-Some.ensures.some in
    let lengths = lengths_are _ node.left node.part node.right is in
    let counts = scalars_are _ node.left node.part node.right is in
    let before = left_scalars _ node.left node.part node.right is c.requires.few _ c.scalars-before.ensures in (
      search (rules, lengths),
      (omega (arith, before, counts, c.requires.within, c.if-at-before.false, c.if-within-node.false, node.part.scalars_are), omega (arith, counts, c.requires.few)),
    )

pub overflow_add-result : goal.overflow_add-result
overflow_add-result t c =
    let node = c.in-Some.node.now in
    let is = c.in-Some.ensures.some in
    let part = left_parts _ node.left node.part node.right is c.requires.few _ c.len-part.ensures in
    omega (arith, part, lengths_are _ node.left node.part node.right is, length-le-scalar_count c.args.self.now, c.requires.few)

pub overflow_add-result-2 : goal.overflow_add-result-2
overflow_add-result-2 t c =
    let node = c.in-Some.node.now in
    let is = c.in-Some.ensures.some in
    let part = left_parts _ node.left node.part node.right is c.requires.few _ c.len-part.ensures in
    let behind = spot-index _ _ _ _ c.find_spot-spot.ensures in
    omega (arith, part, behind, lengths_are _ node.left node.part node.right is, length-le-scalar_count c.args.self.now, c.requires.few)

pub returns : goal.returns
returns t c =
    let node = c.in-Some.node.now in
    let is = c.in-Some.ensures.some in
    let before = left_scalars _ node.left node.part node.right is c.requires.few _ c.scalars-before.ensures in
    let part = left_parts _ node.left node.part node.right is c.requires.few _ c.len-part.ensures in
    let more = c.args.at - c.scalars-before.result - node.part.scalars in
    let place : c.args.at ≡ scalar_count node.left + length (chars (string_bytes node.part.text)) + more =
    omega (arith, before, node.part.scalars_are, c.if-at-before.false, c.if-within-node.false) in
    subst (λ n. IsSpot c.args.self.now c.args.at (n + 1 + c.find_spot-spot.result.part) c.find_spot-spot.result.within) (sym part)
    (spot-right _ node.left node.part node.right is c.args.at more _ _ place c.find_spot-spot.ensures)
