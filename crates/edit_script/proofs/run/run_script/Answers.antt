use Rattle.std.proofs.Common.{sym, subst}
use Rattle.std.proofs.lemmas.Result.{err_from_is_err_and}
use Rattle.edit_script.specs.Sources.{IsScript}
use Rattle.edit_script.proofs.AnswerLemmas.{answers_exactly, unread_exactly}
use Rattle.edit_script.proofs.RunLemmas.{runs_read, stops_read}
use Rattle.edit_script.proofs.run.run_script.Goals as goal

pub returns-in_err-script-clause-exactly : goal.returns-in_err-script-clause-exactly
returns-in_err-script-clause-exactly g c =
    let p = err_from_is_err_and c.from_residual.result c.from_residual.ensures.1 in
    unread_exactly c.args.replica.now (g.S.Source.seen c.args.source.now)
    (g.S.Source.seen c.read_script.new.source) _ _ c.from_residual.result p.1 p.2 c.in_err-script.ensures.unread

pub returns-clause-exactly : goal.returns-clause-exactly
returns-clause-exactly g c =
    let is = subst (IsScript _ _) (sym c.as_slice.ensures.value) c.in_ok-script.ensures.script in
    answers_exactly _ _ _ _ c.run_lines.result (runs_read _ _ _ _ _ c.run_lines.result is c.run_lines.ensures.ok)
    (stops_read _ _ _ _ _ c.run_lines.result is c.run_lines.ensures.err)

pub returns-clause-err : goal.returns-clause-err
returns-clause-err g c =
    stops_read _ _ _ _ _ c.run_lines.result (subst (IsScript _ _) (sym c.as_slice.ensures.value) c.in_ok-script.ensures.script) c.run_lines.ensures.err
