use Rattle.draft_plan.specs.Limits.{CostsShaping, LacksRoom, cost}
use Rattle.draft_plan.specs.Plans.{move_count}
use Rattle.draft_plan.proofs.EditCostLemmas.{shaping_none}
use Rattle.std.proofs.Common.{[], ap, arith, cond, inr, subst, sym, ◌∙◌, ◌∷◌, ◌≡◌}
use Rattle.std.specs.Prelude.{Ok, slice_get}
use Rattle.std.proofs.lemmas.Result.{err_from_is_err_and}
use Rattle.catalogue_notes.specs.Arranged.{arranged}
use Rattle.catalogue_notes.specs.Laws.{AddsOne}
use Rattle.catalogue_notes.specs.Lift.{moves}
use Rattle.catalogue_notes.specs.Moving.{move_by}
use Rattle.section_plan.specs.Orders.{Places}
use Rattle.draft_plan.proofs.ArrangingLemmas.{order_moved}
use Rattle.draft_plan.proofs.ShapeLemmas.{history_is, wants_memory}
use Rattle.draft_plan.proofs.arranging.move_next.Goals as goal

pub returns-in_err-step-clause-shapes : goal.returns-in_err-step-clause-shapes
returns-in_err-step-clause-shapes c =
    let p = err_from_is_err_and c.from_residual.result c.from_residual.ensures.1 in
    rw (p.1, p.2) (wants_memory c.args.replica.now)

pub returns-clause-arranged : goal.returns-clause-arranged
returns-clause-arranged c =
    let places = subst (Places c.args.order.now.items c.place_next.new.order.items c.args.stays.now c.args.part) c.in-Some.is c.in_ok-step.ensures.places in
    let step = places.1 in
    let made = c.in_ok-made.ensures.moved in
    let of = c.requires.arranged in
    let h = c.args.replica.now.held.history in
    rw (places.0, made.lands)
    (order_moved c.args.sections.now (arranged h) c.args.order.now.items c.in-Some.step.from c.in-Some.step.to c.args.part made.section of made.placed step.stands
    (omega (arith, step.to_within, of.long)))

pub returns-in_err-step-clause-costs : goal.returns-in_err-step-clause-costs
returns-in_err-step-clause-costs c =
    let p = err_from_is_err_and c.from_residual.result c.from_residual.ensures.1 in
    rw (p.1, p.2) tt

pub returns-in_default-clause-costs : goal.returns-in_default-clause-costs
returns-in_default-clause-costs c =
    shaping_none c.args.replica.now (cost (move_count c.args.stays.now c.args.part) (move_count c.args.stays.now c.args.part) (move_count c.args.stays.now c.args.part))

pub returns-clause-moved : goal.returns-clause-moved
returns-clause-moved c =
    let places = subst (Places c.args.order.now.items c.place_next.new.order.items c.args.stays.now c.args.part) c.in-Some.is c.in_ok-step.ensures.places in
    let step = places.1 in
    let made = c.in_ok-made.ensures.moved in
    let h = c.args.replica.now.held.history in
    let e = move_by c.args.replica.now made.section c.in-Some.step.from c.in-Some.step.to in
    let is = history_is c.args.replica.now c.move_one.new.replica (e ∷ []) made.gained in
    inr (
      made.section,
      ap (slice_get c.args.sections.now) (sym step.stands) ∙ c.requires.arranged.each c.in-Some.step.from made.section made.placed,
      places.2,
      record {
        from = c.in-Some.step.from;
        to = c.in-Some.step.to;
        stood = made.placed;
        lands = made.lands;
        adds = subst (λ g. AddsOne made.section (moves h) (moves g)) (sym is) made.moved.adds;
      },
    )

pub returns-in_err-made-clause-costs : goal.returns-in_err-made-clause-costs
returns-in_err-made-clause-costs c =
    let places = subst (Places c.args.order.now.items c.place_next.new.order.items c.args.stays.now c.args.part) c.in-Some.is c.in_ok-step.ensures.places in
    let one : move_count c.args.stays.now c.args.part ≡ 1 = ap (λ b. cond b 0 1) places.2 in
    let p = err_from_is_err_and c.from_residual-in_err-made.result c.from_residual-in_err-made.ensures.1 in
    rw (p.1, p.2) (subst (λ n. LacksRoom c.args.replica.now (cost n n n) c.in_err-made.field-0.0) (sym one) c.in_err-made.ensures.costs)

pub returns-clause-costs : goal.returns-clause-costs
returns-clause-costs c =
    let places = subst (Places c.args.order.now.items c.place_next.new.order.items c.args.stays.now c.args.part) c.in-Some.is c.in_ok-step.ensures.places in
    let one : move_count c.args.stays.now c.args.part ≡ 1 = ap (λ b. cond b 0 1) places.2 in
    subst (λ n. CostsShaping c.args.replica.now c.move_one.new.replica (cost n n n) (Ok c.in_ok-made.made)) (sym one) c.in_ok-made.ensures.costs
