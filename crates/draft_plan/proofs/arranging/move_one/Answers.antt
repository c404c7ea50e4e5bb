use Rattle.draft_plan.proofs.EditCostLemmas.{move_costs, move_lacks}
use Rattle.std.proofs.lemmas.Result.{err_from_is_err_and}
use Rattle.draft_plan.proofs.ShapeLemmas.{move_shaped, move_stops}
use Rattle.draft_plan.proofs.arranging.move_one.Goals as goal

pub returns-in_err-move_section-clause-shapes : goal.returns-in_err-move_section-clause-shapes
returns-in_err-move_section-clause-shapes c =
    let p = err_from_is_err_and c.from_residual.result c.from_residual.ensures.1 in
    let e = c.in_err-move_section.ensures in
    rw (p.1, p.2)
    (move_stops c.args.replica.now c.move_section.new.replica c.args.step.from c.args.step.to c.in_err-move_section.field-0.0 c.requires.from_within c.requires.to_within e.unmade
    e.absent e.refused)

pub returns-clause-shapes : goal.returns-clause-shapes
returns-clause-shapes c =
    let e = c.in_ok-move_section.ensures in
    move_shaped c.args.replica.now c.move_section.new.replica c.args.step.from c.args.step.to c.in_ok-move_section.field-0 c.requires.sound.lawful e.refused e.made e.shown

pub returns-in_err-move_section-clause-costs : goal.returns-in_err-move_section-clause-costs
returns-in_err-move_section-clause-costs c =
    let p = err_from_is_err_and c.from_residual.result c.from_residual.ensures.1 in
    rw (p.1, p.2) (move_lacks c.args.replica.now c.args.step.from c.args.step.to c.in_err-move_section.field-0.0 c.requires.sound c.in_err-move_section.ensures.refused)

pub returns-clause-costs : goal.returns-clause-costs
returns-clause-costs c =
    let e = c.in_ok-move_section.ensures in
    move_costs c.args.replica.now c.move_section.new.replica c.args.step.from c.args.step.to c.in_ok-move_section.field-0 e.made e.shown
