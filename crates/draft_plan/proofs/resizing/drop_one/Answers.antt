use Rattle.std.proofs.Common.{arith}
use Rattle.origin_model.specs.edits.Edits.{DropSection}
use Rattle.draft_plan.specs.Limits.{cost}
use Rattle.draft_plan.proofs.EditCostLemmas.{drop_costs, edit_lacks}
use Rattle.std.proofs.lemmas.Result.{err_from_is_err_and}
use Rattle.origin_model.specs.declared.operations.Place.TheVariants.{Catalogue as catalogue}
use Rattle.origin_model.specs.order.Printed.{shown}
use Rattle.catalogue_notes.proofs.ArrangedLemmas.{shown_once}
use Rattle.draft_plan.proofs.ResizingLemmas.{without_one}
use Rattle.draft_plan.proofs.ShapeLemmas.{drop_shaped, drop_stops, got}
use Rattle.draft_plan.proofs.resizing.drop_one.Goals as goal

pub returns-in_err-drop_section-clause-shapes : goal.returns-in_err-drop_section-clause-shapes
returns-in_err-drop_section-clause-shapes c =
    let p = err_from_is_err_and c.from_residual.result c.from_residual.ensures.1 in
    let e = c.in_err-drop_section.ensures in
    let within = (got (shown catalogue c.args.replica.now.held.history) c.number_of-number.result c.args.section c.number_of-number.ensures).0 in
    rw (p.1, p.2) (drop_stops c.args.replica.now c.drop_section.new.self c.number_of-number.result c.in_err-drop_section.field-0.0 within e.unmade e.refused)

pub returns-clause-shapes : goal.returns-clause-shapes
returns-clause-shapes c =
    let e = c.in_ok-drop_section.ensures in
    let within = (got (shown catalogue c.args.replica.now.held.history) c.number_of-number.result c.args.section c.number_of-number.ensures).0 in
    (drop_shaped c.args.replica.now c.drop_section.new.self c.number_of-number.result c.in_ok-drop_section.field-0 c.requires.sound.lawful within e.refused e.made).0

pub returns-clause-gone : goal.returns-clause-gone
returns-clause-gone c =
    let h = c.args.replica.now.held.history in
    rw c.in_ok-drop_section.ensures.lands.splices.here
    (without_one (shown catalogue h) c.number_of-number.result c.args.section (shown_once h c.requires.sound.lawful) c.number_of-number.ensures)

pub returns-in_err-drop_section-clause-costs : goal.returns-in_err-drop_section-clause-costs
returns-in_err-drop_section-clause-costs c =
    let p = err_from_is_err_and c.from_residual.result c.from_residual.ensures.1 in
    rw (p.1, p.2) (edit_lacks (DropSection c.number_of-number.result) c.args.replica.now (cost 1 0 0) c.in_err-drop_section.field-0.0 c.requires.sound (omega arith)
    (omega arith) c.in_err-drop_section.ensures.refused)

pub returns-clause-costs : goal.returns-clause-costs
returns-clause-costs c =
    let e = c.in_ok-drop_section.ensures in
    drop_costs c.args.replica.now c.drop_section.new.self c.number_of-number.result c.in_ok-drop_section.field-0 c.requires.sound.lawful e.refused e.made e.lands

pub returns-clause-places : goal.returns-clause-places
returns-clause-places c =
    let e = c.in_ok-drop_section.ensures in
    let within = (got (shown catalogue c.args.replica.now.held.history) c.number_of-number.result c.args.section c.number_of-number.ensures).0 in
    (drop_shaped c.args.replica.now c.drop_section.new.self c.number_of-number.result c.in_ok-drop_section.field-0 c.requires.sound.lawful within e.refused e.made).2
