use Rattle.std.proofs.Common.{[], ap, length, ◌∙◌}
use Rattle.std.proofs.lemmas.Result.{err_from_is_err_and}
use Rattle.draft_plan.proofs.OutlineLemmas.{outline_long}
use Rattle.draft_plan.proofs.PlanLemmas.{no_hunks}
use Rattle.draft_plan.proofs.ShapeLemmas.{wants_memory}
use Rattle.draft_plan.proofs.revision.fill_shaped.Goals as goal

pub returns-in_err-outline-clause-stops : goal.returns-in_err-outline-clause-stops
returns-in_err-outline-clause-stops c =
    let p = err_from_is_err_and c.from_residual.result c.from_residual.ensures.1 in
    rw (p.1, p.2) (wants_memory c.args.replica.now)

pub fill-requires-clause-outline : goal.fill-requires-clause-outline
fill-requires-clause-outline c = rw c.entries.ensures c.in_ok-outline.ensures.outline

pub fill-requires-clause-count : goal.fill-requires-clause-count
fill-requires-clause-count c =
    ap length c.entries.ensures ∙ outline_long c.args.replica.now.held.history c.in_ok-outline.outline c.in_ok-outline.ensures.outline ∙ c.requires.count

pub returns-in_err-outline-clause-costs : goal.returns-in_err-outline-clause-costs
returns-in_err-outline-clause-costs c =
    let p = err_from_is_err_and c.from_residual.result c.from_residual.ensures.1 in
    rw (p.1, p.2) ([], no_hunks _ _ _, tt)
