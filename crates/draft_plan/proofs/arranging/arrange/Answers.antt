use Rattle.draft_plan.specs.Limits.{CostsShaping, LacksRoom, cost}
use Rattle.draft_plan.specs.Plans.{move_count, sum_below}
use Rattle.std.specs.Prelude.{Ok}
use Rattle.draft_plan.proofs.EditCostLemmas.{shaping_join, shaping_more, shaping_none, shaping_stop}
use Rattle.draft_plan.proofs.LimitLemmas.{up}
use Rattle.std.proofs.Common.{ap, arith, inl, inr, length, subst, sym, ◌+◌, ◌∙◌, ◌≡◌}
use Rattle.std.proofs.lemmas.Result.{err_from_is_err_and}
use Rattle.catalogue_notes.specs.Arranged.{arranged}
use Rattle.catalogue_notes.proofs.ArrangedLemmas.{arranged_shown}
use Rattle.section_plan.specs.Orders.{ArePlaced, IsOrder}
use Rattle.section_plan.proofs.OrderLemmas.{order_whole}
use Rattle.draft_plan.specs.Arranging.{AreStaying, MovesPart}
use Rattle.draft_plan.proofs.ArrangingLemmas.{arranged_order, order_all}
use Rattle.draft_plan.proofs.FewMovesLemmas.{arranges_few, few_more, few_start, moves_no_more}
use Rattle.draft_plan.proofs.PlanLemmas.{sum_below_longer, sum_below_more}
use Rattle.draft_plan.proofs.MakingLemmas.{makes_few}
use Rattle.draft_plan.proofs.ShapeLemmas.{shaped_join, shaped_none, stops_shaped, wants_memory}
use Rattle.draft_plan.proofs.arranging.arrange.Goals as goal

pub order_of-requires : goal.order_of-requires
order_of-requires c = λ s m. (c.requires.shown s).0 (arranged_shown c.args.replica.now.held.history s m)

pub returns-in_err-order-clause-shapes : goal.returns-in_err-order-clause-shapes
returns-in_err-order-clause-shapes c =
    let p = err_from_is_err_and c.from_residual.result c.from_residual.ensures.1 in
    rw (p.1, p.2) (wants_memory c.args.replica.now)

pub stays_of-requires : goal.stays_of-requires
stays_of-requires c =
    let is = arranged_order c.args.replica.now.held.history c.args.sections.now c.in_ok-order.order.items c.requires.sound.lawful c.requires.shown c.requires.once
    c.in_ok-order.ensures.order in
    subst IsOrder (sym c.as_slice.ensures.value) is.0

pub returns-in_err-stays-clause-shapes : goal.returns-in_err-stays-clause-shapes
returns-in_err-stays-clause-shapes c =
    let p = err_from_is_err_and c.from_residual-in_err-stays.result c.from_residual-in_err-stays.ensures.1 in
    rw (p.1, p.2) (wants_memory c.args.replica.now)

pub parts-init : goal.parts-init
parts-init c =
    let s = c.args.replica.now in
    let is = arranged_order s.held.history c.args.sections.now c.in_ok-order.order.items c.requires.sound.lawful c.requires.shown c.requires.once c.in_ok-order.ensures.order in
    record {
      settled = c.requires.settled;
      sound = c.requires.sound;
      arranges = c.new-arranger.ensures.arranges s.held.history;
      shaped = shaped_none s;
      costs = shaping_none s _;
      order = is.0;
      placed = subst (λ o. ArePlaced o c.in_ok-stays.stays.items 0) c.as_slice.ensures.value c.in_ok-stays.ensures.placed;
      of = c.in_ok-order.ensures.order;
      few = few_start s.held.history c.in_ok-stays.stays.items c.args.sections.now;
      long = is.1;
    }

pub move_next-requires-clause-placed : goal.move_next-requires-clause-placed
move_next-requires-clause-placed c =
    subst (λ stays. ArePlaced c.parts.order.items stays c.parts.part) (sym c.as_slice-in-parts.ensures.value) c.parts.invariant.placed

pub returns-in_err-made-clause-shapes : goal.returns-in_err-made-clause-shapes
returns-in_err-made-clause-shapes c =
    let p = err_from_is_err_and c.from_residual-in_err-made.result c.from_residual-in_err-made.ensures.1 in
    rw (p.1, p.2)
    (stops_shaped c.args.replica.now c.parts.replica c.move_next.new.replica c.parts.made c.in_err-made.field-0.0 c.parts.invariant.shaped c.in_err-made.ensures.shapes)

pub overflow_add-made : goal.overflow_add-made
overflow_add-made c =
    let more = shaped_join c.args.replica.now c.parts.replica c.move_next.new.replica c.parts.made c.in_ok-made.field-0 c.parts.invariant.shaped c.in_ok-made.ensures.shapes in
    omega (arith, makes_few c.args.replica.now c.move_next.new.replica (c.parts.made + c.in_ok-made.field-0) more.makes c.in_ok-made.ensures.sound)

pub parts-preserved : goal.parts-preserved
parts-preserved c =
    let e = c.in_ok-made.ensures in
    let n = sum_below (move_count c.in_ok-stays.stays.items) c.parts.part in
    let one = move_count c.in_ok-stays.stays.items c.parts.part in
    let more = sum_below (move_count c.in_ok-stays.stays.items) (c.parts.part + 1) in
    let next = sum_below_more (move_count c.in_ok-stays.stays.items) c.parts.part in
    record {
      settled = e.settled;
      sound = e.sound;
      arranges = c.move_next.ensures.arranges;
      shaped = shaped_join c.args.replica.now c.parts.replica c.move_next.new.replica c.parts.made c.in_ok-made.field-0 c.parts.invariant.shaped e.shapes;
      costs = shaping_join c.args.replica.now c.parts.replica c.move_next.new.replica (cost n n n) (cost one one one) (cost more more more) c.parts.made c.in_ok-made.field-0
          (up (omega (arith, next)) (omega (arith, next)) (omega (arith, next))) c.parts.invariant.costs
          (subst (λ v. CostsShaping c.parts.replica c.move_next.new.replica (cost (move_count v c.parts.part) (move_count v c.parts.part) (move_count v c.parts.part))
          (Ok c.in_ok-made.field-0)) c.as_slice-in-parts.ensures.value e.costs);
      order = e.order;
      placed = subst (λ v. ArePlaced c.move_next.new.order.items v (c.parts.part + 1)) c.as_slice-in-parts.ensures.value e.placed;
      of = e.arranged;
      few = few_more c.args.replica.now.held.history c.parts.replica.held.history c.move_next.new.replica.held.history c.in_ok-stays.stays.items c.args.sections.now c.parts.part
          c.requires.once
          c.parts.invariant.sound.lawful c.parts.invariant.few
          (subst (λ v. MovesPart c.parts.replica.held.history c.move_next.new.replica.held.history v c.args.sections.now c.parts.part) c.as_slice-in-parts.ensures.value e.moved);
      long = e.long ∙ c.parts.invariant.long;
    }

pub returns-clause-arranged : goal.returns-clause-arranged
returns-clause-arranged c =
    let was = c.parts.invariant in
    let all : c.parts.part ≡ length c.parts.order.items = omega (arith, was.long) in
    order_all c.args.sections.now (arranged c.parts.replica.held.history) c.parts.order.items (omega (arith, was.long, was.of.long)) was.of
    (order_whole c.parts.order.items c.in_ok-stays.stays.items was.order (subst (ArePlaced c.parts.order.items c.in_ok-stays.stays.items) all was.placed))

pub move_next-requires-clause-long : goal.move_next-requires-clause-long
move_next-requires-clause-long c =
    let is = arranged_order c.args.replica.now.held.history c.args.sections.now c.in_ok-order.order.items c.requires.sound.lawful c.requires.shown c.requires.once
    c.in_ok-order.ensures.order in
    ap length c.as_slice-in-parts.ensures.value ∙ (c.in_ok-stays.ensures.long ∙ (ap length c.as_slice.ensures.value ∙ (is.1 ∙ sym c.parts.invariant.long)))

pub returns-in_err-order-clause-costs : goal.returns-in_err-order-clause-costs
returns-in_err-order-clause-costs c =
    let p = err_from_is_err_and c.from_residual.result c.from_residual.ensures.1 in
    rw (p.1, p.2) (inl tt)

pub returns-in_err-stays-clause-costs : goal.returns-in_err-stays-clause-costs
returns-in_err-stays-clause-costs c =
    let p = err_from_is_err_and c.from_residual-in_err-stays.result c.from_residual-in_err-stays.ensures.1 in
    rw (p.1, p.2) (inl tt)

pub returns-in_err-made-clause-costs : goal.returns-in_err-made-clause-costs
returns-in_err-made-clause-costs c =
    let p = err_from_is_err_and c.from_residual-in_err-made.result c.from_residual-in_err-made.ensures.1 in
    let h = c.args.replica.now.held.history in
    let is = arranged_order h c.args.sections.now c.in_ok-order.order.items c.requires.sound.lawful c.requires.shown c.requires.once c.in_ok-order.ensures.order in
    let staying = subst (λ o. AreStaying o c.args.pairs.now c.in_ok-stays.stays.items) c.as_slice.ensures.value c.in_ok-stays.ensures.staying in
    let long = c.in_ok-stays.ensures.long ∙ ap length c.as_slice.ensures.value in
    let few = moves_no_more h c.args.pairs.now c.args.sections.now c.in_ok-order.order.items c.in_ok-stays.stays.items c.requires.sound.lawful is.0 c.in_ok-order.ensures.order
    is.1 staying long in
    let f = move_count c.in_ok-stays.stays.items in
    let n = sum_below f c.parts.part in
    let all = sum_below f (length c.args.sections.now) in
    let one = f c.parts.part in
    let next = sum_below_more f c.parts.part in
    let longer = sum_below_longer f (c.parts.part + 1) (length c.args.sections.now) (omega arith) in
    let why = c.in_err-made.field-0.0 in
    rw (p.1, p.2)
    (inr (
      all,
      few,
      shaping_stop c.args.replica.now c.parts.replica (cost n n n) (cost one one one) (cost all all all) c.parts.made why
          (up (omega (arith, next, longer)) (omega (arith, next, longer)) (omega (arith, next, longer))) c.parts.invariant.costs
          (subst (λ v. LacksRoom c.parts.replica (cost (move_count v c.parts.part) (move_count v c.parts.part) (move_count v c.parts.part)) why) c.as_slice-in-parts.ensures.value
          c.in_err-made.ensures.costs),
    ))

pub returns-clause-costs : goal.returns-clause-costs
returns-clause-costs c =
    let h = c.args.replica.now.held.history in
    let is = arranged_order h c.args.sections.now c.in_ok-order.order.items c.requires.sound.lawful c.requires.shown c.requires.once c.in_ok-order.ensures.order in
    let staying = subst (λ o. AreStaying o c.args.pairs.now c.in_ok-stays.stays.items) c.as_slice.ensures.value c.in_ok-stays.ensures.staying in
    let long = c.in_ok-stays.ensures.long ∙ ap length c.as_slice.ensures.value in
    let few = moves_no_more h c.args.pairs.now c.args.sections.now c.in_ok-order.order.items c.in_ok-stays.stays.items c.requires.sound.lawful is.0 c.in_ok-order.ensures.order
    is.1 staying long in
    let f = move_count c.in_ok-stays.stays.items in
    let n = sum_below f c.parts.part in
    let all = sum_below f (length c.args.sections.now) in
    let longer = sum_below_longer f c.parts.part (length c.args.sections.now) (omega arith) in (
      all,
      few,
      shaping_more c.args.replica.now c.parts.replica (cost n n n) (cost all all all) c.parts.made
          (up (omega (arith, longer)) (omega (arith, longer)) (omega (arith, longer))) c.parts.invariant.costs,
    )

pub returns-clause-few : goal.returns-clause-few
returns-clause-few c =
    let h = c.args.replica.now.held.history in
    let is = arranged_order h c.args.sections.now c.in_ok-order.order.items c.requires.sound.lawful c.requires.shown c.requires.once c.in_ok-order.ensures.order in
    let staying = subst (λ o. AreStaying o c.args.pairs.now c.in_ok-stays.stays.items) c.as_slice.ensures.value c.in_ok-stays.ensures.staying in
    let long = c.in_ok-stays.ensures.long ∙ ap length c.as_slice.ensures.value in
    arranges_few h c.args.pairs.now c.args.sections.now c.in_ok-order.order.items c.in_ok-stays.stays.items c.requires.sound.lawful is.0 c.in_ok-order.ensures.order is.1
    staying long c.parts.replica.held.history c.parts.part c.parts.invariant.few (omega arith)
