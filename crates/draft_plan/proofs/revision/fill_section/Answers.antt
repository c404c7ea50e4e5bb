use Rattle.std.proofs.Common.{ap, ◌∙◌}
use Rattle.std.specs.Prelude.{slice_get}
use Rattle.draft_plan.proofs.PlanLemmas.{section_costs, section_lacks}
use Rattle.std.proofs.Common.{arith, inl, ◌+◌}
use Rattle.std.proofs.lemmas.Result.{err_from_is_err_and}
use Rattle.draft_plan.proofs.FillLemmas.{section_filled, text_stops}
use Rattle.draft_plan.proofs.MakingLemmas.{makes_few}
use Rattle.draft_plan.proofs.revision.fill_section.Goals as goal

pub returns-in_err-revised-clause-stops : goal.returns-in_err-revised-clause-stops
returns-in_err-revised-clause-stops c =
    let p = err_from_is_err_and c.from_residual-in_err-revised.result c.from_residual-in_err-revised.ensures.1 in
    let e = c.in_err-revised.ensures in
    rw (p.1, p.2)
    (text_stops c.args.replica.now c.retitle_other.new.replica c.revise_text.new.replica c.args.entry.now.number c.in_ok-retitled.retitled c.args.entry.now.section c.args.title.now
    c.in_err-revised.field-0.0 c.requires.numbered c.in_ok-retitled.ensures.titled e.absent e.in_range e.stops)

pub overflow_add-result : goal.overflow_add-result
overflow_add-result c =
    let e = c.in_ok-revised.ensures in
    let made = section_filled c.args.replica.now c.retitle_other.new.replica c.revise_text.new.replica c.args.entry.now.number c.in_ok-retitled.retitled c.in_ok-revised.revised
    c.args.entry.now.section c.args.title.now c.args.text.now c.requires.numbered c.in_ok-retitled.ensures.titled
    (record { utf8 = c.utf8.text; revised = e.revised; keeps = e.keeps; touches = e.touches; same = e.same }) in
    omega (arith, makes_few c.args.replica.now c.revise_text.new.replica (c.in_ok-retitled.retitled + c.in_ok-revised.revised) made.makes e.sound)

pub returns-clause-filled : goal.returns-clause-filled
returns-clause-filled c =
    let e = c.in_ok-revised.ensures in
    section_filled c.args.replica.now c.retitle_other.new.replica c.revise_text.new.replica c.args.entry.now.number c.in_ok-retitled.retitled c.in_ok-revised.revised
    c.args.entry.now.section c.args.title.now c.args.text.now c.requires.numbered c.in_ok-retitled.ensures.titled
    (record { utf8 = c.utf8.text; revised = e.revised; keeps = e.keeps; touches = e.touches; same = e.same })

pub returns-in_err-retitled-clause-costs : goal.returns-in_err-retitled-clause-costs
returns-in_err-retitled-clause-costs c =
    let p = err_from_is_err_and c.from_residual.result c.from_residual.ensures.1 in
    rw (p.1, p.2)
    (inl c.in_err-retitled.ensures.costs)

pub returns-in_err-revised-clause-costs : goal.returns-in_err-revised-clause-costs
returns-in_err-revised-clause-costs c =
    let p = err_from_is_err_and c.from_residual-in_err-revised.result c.from_residual-in_err-revised.ensures.1 in
    let titled = c.in_ok-retitled.ensures.titled in
    let x = c.args.entry.now.section in
    let there = ap (λ xs. slice_get xs c.args.entry.now.number) titled.only.catalogue_is ∙ c.requires.numbered in
    rw (p.1, p.2)
    (section_lacks c.args.replica.now c.retitle_other.new.replica c.revise_text.new.replica x
    (record { title = c.args.title.now; text = c.args.text.now }) c.in_ok-retitled.retitled c.in_err-revised.field-0.0 titled.reads c.in_ok-retitled.ensures.costs
    (c.in_err-revised.ensures.costs x there))

pub returns-clause-costs : goal.returns-clause-costs
returns-clause-costs c =
    let titled = c.in_ok-retitled.ensures.titled in
    let x = c.args.entry.now.section in
    let there = ap (λ xs. slice_get xs c.args.entry.now.number) titled.only.catalogue_is ∙ c.requires.numbered in
    section_costs c.args.replica.now c.retitle_other.new.replica c.revise_text.new.replica x
    (record { title = c.args.title.now; text = c.args.text.now }) c.in_ok-retitled.retitled c.in_ok-revised.revised titled.reads c.in_ok-retitled.ensures.costs
    (c.in_ok-revised.ensures.costs x there)

pub returns-clause-arranges : goal.returns-clause-arranges
returns-clause-arranges c = c.in_ok-revised.ensures.revised.2.keeps.arranges c.retitle_other.new.arranger c.retitle_other.ensures.arranges
