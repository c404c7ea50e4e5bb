use Rattle.std.proofs.Common.{ap, subst, sym, ◌∙◌, ◌∷◌, ◌≡◌, List}
use Rattle.std.specs.List.{All}
use Rattle.fugue_ids.specs.Keys.{IsFit, Keyed, first_id, rest_of}
use Rattle.fugue_ids.specs.declared.key.Gap.{Gap}
use Rattle.origin_model.specs.sides.Keys.{keyed_order}
use Rattle.origin_model.specs.sides.KeyedGap.{gap_by_keys, slot_key}
use Rattle.origin_model.specs.sides.Node.{as_ops, node_order}
use Rattle.origin_model.specs.sides.Slot.{IsPlace, slot_by}
use Rattle.origin_model.proofs.SharedLemmas.{adjacent, gap_found}
use Rattle.sided_tree.specs.EarlierSiblings.{is_earlier_sibling}
use Rattle.sided_tree.proofs.OrderLemmas.{gap_of}
use Rattle.sided_tree.proofs.gaps.find_gap.Goals as goal

pub returns-then-are_beside : goal.returns-then-are_beside
returns-then-are_beside g c =
    let ns = g.N.NodeLookup.nodes c.args.nodes.now in
    let n = c.args.node.now in
    let next : first_id (rest_of n.left (keyed_order ns)) ≡ n.right = ap (λ l. first_id (rest_of n.left l)) (sym c.requires.list) ∙ c.are_beside.ensures.0 c.if-are_beside.true in
    let p = gap_of n ns (g.F.OrderOf.listed c.args.order.now) c.gap_between.result c.requires.new.1 c.requires.list
    (subst (λ z. IsPlace z n.id (node_order ns) (node_order (n ∷ ns))) (sym c.gap_between.ensures) (adjacent n ns c.requires.new next)) in
    record { place = p.place; beside = p.beside; alone = p.alone }

pub returns : goal.returns
returns g c =
    let ns = g.N.NodeLookup.nodes c.args.nodes.now in
    let n = c.args.node.now in
    let es = g.F.OrderOf.listed c.args.order.now in
    let slot = slot_by (as_ops ns) n.left n.right in
    let gap : List Keyed → Gap = λ l. gap_by_keys l slot (slot_key (as_ops ns) slot) (is_earlier_sibling ns n) in
    let found = gap_found n ns c.requires.new (subst (All IsFit) c.requires.list c.gap_by_keys.ensures.fit) in
    let is : c.gap_by_keys.result ≡ gap (keyed_order ns) = c.gap_by_keys.ensures.gap ∙ ap gap c.requires.list in
    let p = gap_of n ns es c.gap_by_keys.result c.requires.new.1 c.requires.list (subst (λ z. IsPlace z n.id (node_order ns) (node_order (n ∷ ns))) (sym is) found) in
    record { place = p.place; beside = p.beside; alone = p.alone }
