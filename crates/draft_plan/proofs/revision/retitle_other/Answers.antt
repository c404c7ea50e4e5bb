use Rattle.draft_plan.specs.Plans.{filling, retitle_count}
use Rattle.draft_plan.specs.declared.fault.ReviseFault.TheVariants as fault
use Rattle.draft_plan.proofs.PlanLemmas.{one_retitle, title_costs, title_lacks}
use Rattle.std.specs.Prelude.{Some}
use Rattle.draft_plan.proofs.EditCostLemmas.{retitle_costs, retitle_lacks}
use Rattle.draft_plan.proofs.LimitLemmas.{costs_none}
use Rattle.std.proofs.Common.{[], sym, ◌∙◌}
use Rattle.std.proofs.lemmas.Bool.{false≢true}
use Rattle.std.proofs.lemmas.Result.{err_from_is_err_and}
use Rattle.draft_plan.proofs.FillLemmas.{headed_already, headed_by, headed_stops}
use Rattle.draft_plan.proofs.ShapeLemmas.{wants_memory}
use Rattle.draft_plan.proofs.revision.retitle_other.Goals as goal

pub returns-then-has_title-clause-titled : goal.returns-then-has_title-clause-titled
returns-then-has_title-clause-titled c =
    headed_already c.args.replica.now c.args.entry.now.section c.args.title.now (sym c.requires.headed ∙ c.has_title.ensures.0 c.if-has_title.true)

pub returns-in_err-title-clause-stops : goal.returns-in_err-title-clause-stops
returns-in_err-title-clause-stops c =
    let p = err_from_is_err_and c.from_residual.result c.from_residual.ensures.1 in
    rw (p.1, p.2) (wants_memory c.args.replica.now)

pub returns-in_err-retitle-clause-stops : goal.returns-in_err-retitle-clause-stops
returns-in_err-retitle-clause-stops c =
    let p = err_from_is_err_and c.from_residual-in_err-retitle.result c.from_residual-in_err-retitle.ensures.1 in
    let e = c.in_err-retitle.ensures in
    rw (p.1, p.2)
    (headed_stops c.args.replica.now c.retitle.new.replica c.args.place c.args.entry.now.section c.in_ok-title.title c.in_err-retitle.field-0.0 c.requires.placed e.unmade e.absent
    e.refused)

pub returns-clause-titled : goal.returns-clause-titled
returns-clause-titled c =
    let e = c.in_ok-retitle.ensures in
    headed_by c.args.replica.now c.retitle.new.replica c.args.place c.in_ok-retitle.field-0 c.args.entry.now.section c.in_ok-title.title c.args.title.now c.requires.sound.lawful
    c.requires.placed
    e.refused e.made e.shown c.in_ok-title.ensures (λ d. false≢true (sym c.if-has_title.false ∙ c.has_title.ensures.1 (c.requires.headed ∙ d)))

pub returns-then-has_title-clause-costs : goal.returns-then-has_title-clause-costs
returns-then-has_title-clause-costs c =
    let s = c.args.replica.now in
    costs_none s (filling (retitle_count s.held.history (Some c.args.entry.now.section) (Some c.args.title.now)) [])

pub returns-in_err-title-clause-costs : goal.returns-in_err-title-clause-costs
returns-in_err-title-clause-costs c =
    let p = err_from_is_err_and c.from_residual.result c.from_residual.ensures.1 in
    rw (p.1, p.2) tt

pub returns-in_err-retitle-clause-costs : goal.returns-in_err-retitle-clause-costs
returns-in_err-retitle-clause-costs c =
    let p = err_from_is_err_and c.from_residual-in_err-retitle.result c.from_residual-in_err-retitle.ensures.1 in
    let s = c.args.replica.now in
    let r = retitle_count s.held.history (Some c.args.entry.now.section) (Some c.args.title.now) in
    let one = one_retitle s.held.history c.args.entry.now.section c.args.title.now (λ d. false≢true (sym c.if-has_title.false ∙ c.has_title.ensures.1 (c.requires.headed ∙ d))) in
    rw (p.1, p.2) (title_lacks s r (fault.Move c.in_err-retitle.field-0.0) one
    (retitle_lacks s c.args.place c.in_err-retitle.field-0.0 c.requires.sound c.in_err-retitle.ensures.refused))

pub returns-clause-costs : goal.returns-clause-costs
returns-clause-costs c =
    let s = c.args.replica.now in
    let one = one_retitle s.held.history c.args.entry.now.section c.args.title.now (λ d. false≢true (sym c.if-has_title.false ∙ c.has_title.ensures.1 (c.requires.headed ∙ d))) in
    title_costs s c.retitle.new.replica (retitle_count s.held.history (Some c.args.entry.now.section) (Some c.args.title.now)) c.in_ok-retitle.field-0 one
    (retitle_costs s c.retitle.new.replica c.args.place c.in_ok-retitle.field-0 c.in_ok-title.title c.in_ok-retitle.ensures.made)
