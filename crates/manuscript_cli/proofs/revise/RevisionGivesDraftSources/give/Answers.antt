use Rattle.std.proofs.lemmas.Result.{err_from_is_err_and}
use Rattle.manuscript_cli.proofs.revise.RevisionGivesDraftSources.give.Goals as goal

pub returns-in_err-revised-clause-gives : goal.returns-in_err-revised-clause-gives
returns-in_err-revised-clause-gives g c home last holds =
    let p = err_from_is_err_and c.from_residual.result c.from_residual.ensures.1 in
    rw (p.1, p.2) (c.in_err-revised.ensures.gives c.args._kept.now)
