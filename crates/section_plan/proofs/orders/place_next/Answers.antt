use Rattle.std.proofs.Common.{rules, subst}
use Rattle.section_plan.specs.Orders.{IsStepOf}
use Rattle.section_plan.proofs.OrderLemmas.{length_new, order_new, placed_new, placed_stay, placed_there}
use Rattle.section_plan.proofs.orders.place_next.Goals as goal

pub returns-clause-order : goal.returns-clause-order
returns-clause-order c =
    let step = subst (λ o. IsStepOf o c.args.part c.step_of-step.result.from c.step_of-step.result.to) c.as_slice.ensures.value c.step_of-step.ensures in
    rw c.in_ok-reorder.ensures
    (order_new c.args.order.now.items c.args.stays.now c.args.part c.step_of-step.result.from c.step_of-step.result.to c.requires.order c.requires.placed step)

pub returns-clause-placed : goal.returns-clause-placed
returns-clause-placed c =
    let step = subst (λ o. IsStepOf o c.args.part c.step_of-step.result.from c.step_of-step.result.to) c.as_slice.ensures.value c.step_of-step.ensures in
    rw c.in_ok-reorder.ensures
    (placed_new c.args.order.now.items c.args.stays.now c.args.part c.step_of-step.result.from c.step_of-step.result.to c.requires.order c.requires.placed step)

pub returns-clause-length : goal.returns-clause-length
returns-clause-length c =
    let step = subst (λ o. IsStepOf o c.args.part c.step_of-step.result.from c.step_of-step.result.to) c.as_slice.ensures.value c.step_of-step.ensures in
    rw c.in_ok-reorder.ensures
    (length_new c.args.order.now.items c.args.stays.now c.args.part c.step_of-step.result.from c.step_of-step.result.to c.requires.order c.requires.placed step)

pub returns-then-step-clause-placed : goal.returns-then-step-clause-placed
returns-then-step-clause-placed c =
    let step = subst (λ o. IsStepOf o c.args.part c.step_of-step.result.from c.step_of-step.result.to) c.as_slice.ensures.value c.step_of-step.ensures in
    placed_there c.args.order.now.items c.args.stays.now c.args.part c.step_of-step.result.from c.step_of-step.result.to c.requires.order c.requires.placed step (search rules)

pub returns-then-stays-part-clause-placed : goal.returns-then-stays-part-clause-placed
returns-then-stays-part-clause-placed c = placed_stay c.args.order.now.items c.args.stays.now c.args.part (search rules) c.requires.placed
