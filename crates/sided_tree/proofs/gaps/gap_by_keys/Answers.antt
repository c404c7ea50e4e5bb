use Rattle.std.proofs.Common.{ap, refl, subst, sym, ◌∙◌}
use Rattle.std.specs.Prelude.{None, Some}
use Rattle.fugue_ids.specs.Keys.{between, low_ids, rest_of}
use Rattle.fugue_ids.specs.Listed.{HoldsOrigin}
use Rattle.fugue_ids.specs.Passing.{Falls}
use Rattle.fugue_ids.specs.declared.key.Gap.TheVariants.{After}
use Rattle.origin_model.specs.sides.KeyedGap.{block_end}
use Rattle.sided_tree.specs.EarlierSiblings.{is_earlier_sibling}
use Rattle.sided_tree.proofs.SlotLemmas.{bounds, by_earlier, earlier_held, element_held, fall, no_sibling, same_siblings}
use Rattle.sided_tree.proofs.gaps.gap_by_keys.Goals as goal

pub slot_key-key-requires : goal.slot_key-key-requires
slot_key-key-requires g c =
    record {
      held = element_held c.args.node.now (g.N.NodeLookup.nodes c.args.nodes.now)
          (g.F.OrderOf.listed c.args.order.now) c.requires.new c.requires.list c.find_slot-slot.result c.find_slot-slot.ensures;
    }

pub slot_part-requires : goal.slot_part-requires
slot_part-requires g c =
    record {
      held = element_held c.args.node.now (g.N.NodeLookup.nodes c.args.nodes.now)
          (g.F.OrderOf.listed c.args.order.now) c.requires.new c.requires.list c.find_slot-slot.result c.find_slot-slot.ensures;
    }

pub no_earlier_gap-requires : goal.no_earlier_gap-requires
no_earlier_gap-requires g c =
    record {
      held = element_held c.args.node.now (g.N.NodeLookup.nodes c.args.nodes.now)
          (g.F.OrderOf.listed c.args.order.now) c.requires.new c.requires.list c.find_slot-slot.result c.find_slot-slot.ensures;
    }

pub no_earlier_gap-requires-in-None : goal.no_earlier_gap-requires-in-None
no_earlier_gap-requires-in-None g c =
    record {
      held = element_held c.args.node.now (g.N.NodeLookup.nodes c.args.nodes.now)
          (g.F.OrderOf.listed c.args.order.now) c.requires.new c.requires.list c.find_slot-slot.result c.find_slot-slot.ensures;
    }

pub returns-in_default-clause-gap : goal.returns-in_default-clause-gap
returns-in_default-clause-gap g c =
    let n = c.args.node.now in
    let ns = g.N.NodeLookup.nodes c.args.nodes.now in
    let es = g.F.OrderOf.listed c.args.order.now in
    let s = c.find_slot-slot.result in
    let k = c.slot_key-key.result in
    let none = no_sibling n ns es c.requires.new c.requires.list s c.find_slot-slot.ensures k c.slot_key-key.ensures.key c.slot_key-key.ensures.fit
    (c.in_default.ensures.none.0 refl) in
    c.no_earlier_gap.ensures ∙ by_earlier n ns es c.requires.new c.requires.list s c.find_slot-slot.ensures k c.slot_key-key.ensures.key None none.1

pub last_earlier_sibling-requires-clause-from : goal.last_earlier_sibling-requires-clause-from
last_earlier_sibling-requires-clause-from g c =
    let es = g.F.OrderOf.listed c.args.order.now in
    let part = c.in-Some.ensures.some in
    let b = bounds c.args.node.now (g.N.NodeLookup.nodes c.args.nodes.now) es c.requires.new c.requires.list c.find_slot-slot.result c.find_slot-slot.ensures c.slot_key-key.result
    c.slot_key-key.ensures.key c.slot_key-key.ensures.fit in
    subst (λ T. T) (λ i. HoldsOrigin (low_ids (sym part.2 i) es) (sym part.0 i)) b.0

pub last_earlier_sibling-requires-clause-to : goal.last_earlier_sibling-requires-clause-to
last_earlier_sibling-requires-clause-to g c =
    let es = g.F.OrderOf.listed c.args.order.now in
    let part = c.in-Some.ensures.some in
    let b = bounds c.args.node.now (g.N.NodeLookup.nodes c.args.nodes.now) es c.requires.new c.requires.list c.find_slot-slot.result c.find_slot-slot.ensures c.slot_key-key.result
    c.slot_key-key.ensures.key c.slot_key-key.ensures.fit in
    subst (λ T. T) (λ i. HoldsOrigin (low_ids (sym part.2 i) (rest_of (sym part.0 i) es)) (sym part.1 i)) b.1

pub last_earlier_sibling-requires-clause-falls : goal.last_earlier_sibling-requires-clause-falls
last_earlier_sibling-requires-clause-falls g c = λ fit.
    let n = c.args.node.now in
    let ns = g.N.NodeLookup.nodes c.args.nodes.now in
    let es = g.F.OrderOf.listed c.args.order.now in
    let part = c.in-Some.ensures.some in
    let f = fall n ns es c.requires.new c.requires.list c.find_slot-slot.result c.find_slot-slot.ensures c.slot_key-key.result c.slot_key-key.ensures.key fit in
    subst (λ T. T) (λ i. Falls (is_earlier_sibling ns n) (low_ids (sym part.2 i) (between (sym part.0 i) (sym part.1 i) es))) f

pub block_end-requires : goal.block_end-requires
block_end-requires g c =
    let n = c.args.node.now in
    let ns = g.N.NodeLookup.nodes c.args.nodes.now in
    let es = g.F.OrderOf.listed c.args.order.now in
    let part = c.in-Some.ensures.some in
    let same = same_siblings (is_earlier_sibling ns n) es c.find_slot-slot.result c.slot_key-key.result c.in-Some.part.from c.in-Some.part.to
    c.in-Some.part.key part.0 part.1 part.2 in
    earlier_held n ns es c.requires.new c.requires.list c.find_slot-slot.result c.find_slot-slot.ensures c.slot_key-key.result c.slot_key-key.ensures.key
    c.in-Some-last_earlier_sibling.earlier_sibling
    (sym (c.in-Some-last_earlier_sibling.ensures.earlier_sibling ∙ same))

pub returns-in-Some-last_earlier_sibling-clause-gap : goal.returns-in-Some-last_earlier_sibling-clause-gap
returns-in-Some-last_earlier_sibling-clause-gap g c =
    let n = c.args.node.now in
    let ns = g.N.NodeLookup.nodes c.args.nodes.now in
    let es = g.F.OrderOf.listed c.args.order.now in
    let part = c.in-Some.ensures.some in
    let same = same_siblings (is_earlier_sibling ns n) es c.find_slot-slot.result c.slot_key-key.result c.in-Some.part.from c.in-Some.part.to
    c.in-Some.part.key part.0 part.1 part.2 in
    ap After (c.block_end.ensures ∙ (λ i. block_end es (part.2 i).depth c.in-Some-last_earlier_sibling.earlier_sibling))
    ∙ by_earlier n ns es c.requires.new c.requires.list c.find_slot-slot.result c.find_slot-slot.ensures c.slot_key-key.result c.slot_key-key.ensures.key
    (Some c.in-Some-last_earlier_sibling.earlier_sibling) (c.in-Some-last_earlier_sibling.ensures.earlier_sibling ∙ same)

pub returns-in-None-clause-gap : goal.returns-in-None-clause-gap
returns-in-None-clause-gap g c =
    let n = c.args.node.now in
    let ns = g.N.NodeLookup.nodes c.args.nodes.now in
    let es = g.F.OrderOf.listed c.args.order.now in
    let part = c.in-Some.ensures.some in
    let same = same_siblings (is_earlier_sibling ns n) es c.find_slot-slot.result c.slot_key-key.result c.in-Some.part.from c.in-Some.part.to
    c.in-Some.part.key part.0 part.1 part.2 in
    c.no_earlier_gap-in-None.ensures
    ∙ by_earlier n ns es c.requires.new c.requires.list c.find_slot-slot.result c.find_slot-slot.ensures c.slot_key-key.result c.slot_key-key.ensures.key None
    (c.in-None.ensures.earlier_sibling ∙ same)
