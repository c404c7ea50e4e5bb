use Rattle.std.proofs.Common.{ap, arith, subst, ◌∙◌}
use Rattle.origin_model.specs.edits.Edits.{Add}
use Rattle.draft_plan.specs.Limits.{cost}
use Rattle.draft_plan.proofs.EditCostLemmas.{add_costs, edit_lacks}
use Rattle.std.proofs.lemmas.Result.{err_from_is_err_and}
use Rattle.std.specs.Prelude.{slice_get}
use Rattle.origin_model.specs.declared.operations.Place.TheVariants.{Catalogue as catalogue}
use Rattle.origin_model.specs.edits.Edits.{id_at}
use Rattle.origin_model.specs.edits.Refusal.{next_of_own}
use Rattle.origin_model.specs.order.Printed.{shown}
use Rattle.draft_plan.specs.Resizing.{IsAdded}
use Rattle.draft_plan.proofs.ShapeLemmas.{add_stops, wants_memory}
use Rattle.draft_plan.proofs.TargetLemmas.{added, put_at}
use Rattle.draft_plan.proofs.resizing.add_one.Goals as goal

pub returns-in_err-title-clause-stops : goal.returns-in_err-title-clause-stops
returns-in_err-title-clause-stops c =
    let p = err_from_is_err_and c.from_residual.result c.from_residual.ensures.1 in
    rw (p.1, p.2) (wants_memory c.args.replica.now)

pub returns-in_err-add-clause-stops : goal.returns-in_err-add-clause-stops
returns-in_err-add-clause-stops c =
    let p = err_from_is_err_and c.from_residual-in_err-add.result c.from_residual-in_err-add.ensures.1 in
    let e = c.in_err-add.ensures in
    rw (p.1, p.2) (add_stops c.args.replica.now c.add.new.self c.args.number c.in_ok-title.title c.in_err-add.field-0.0 c.requires.within e.unmade e.refused)

pub returns-in-Some-clause-added : goal.returns-in-Some-clause-added
returns-in-Some-clause-added c =
    let e = c.in_ok-add.ensures in
    subst (λ t. IsAdded c.args.replica.now c.add.new.self c.args.number t c.in-Some.section) c.in_ok-title.ensures
    (added c.args.replica.now c.add.new.self c.args.number c.in_ok-add.field-0 c.in_ok-title.title c.in-Some.section c.requires.sound.lawful c.requires.within e.refused e.made
    e.lands.splices.here
    (c.in-Some.ensures.section c.add.new.self.held.history c.places.ensures.places))

pub returns-in-None-clause-stops : goal.returns-in-None-clause-stops
returns-in-None-clause-stops c =
    let h = c.args.replica.now.held.history in
    let none = c.in-None.ensures.section c.add.new.self.held.history c.places.ensures.places in
    let there = ap (λ l. slice_get l c.args.number) c.in_ok-add.ensures.lands.splices.here
    ∙ put_at (shown catalogue h) c.args.number (id_at c.args.replica.now.number (next_of_own c.args.replica.now)) c.requires.within in
    cc (none, there)

pub returns-in_err-title-clause-lacks : goal.returns-in_err-title-clause-lacks
returns-in_err-title-clause-lacks c =
    let p = err_from_is_err_and c.from_residual.result c.from_residual.ensures.1 in
    rw (p.1, p.2) tt

pub returns-in_err-add-clause-lacks : goal.returns-in_err-add-clause-lacks
returns-in_err-add-clause-lacks c =
    let p = err_from_is_err_and c.from_residual-in_err-add.result c.from_residual-in_err-add.ensures.1 in
    rw (p.1, p.2) (edit_lacks (Add c.args.number c.in_ok-title.title) c.args.replica.now (cost 1 1 0) c.in_err-add.field-0.0 c.requires.sound (omega arith)
    (omega arith) c.in_err-add.ensures.refused)

pub returns-in-Some-clause-costs : goal.returns-in-Some-clause-costs
returns-in-Some-clause-costs c =
    let e = c.in_ok-add.ensures in
    add_costs c.args.replica.now c.add.new.self c.args.number c.in_ok-add.field-0 c.in_ok-title.title c.requires.sound.lawful e.refused e.made e.lands
