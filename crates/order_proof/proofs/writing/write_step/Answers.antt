use Rattle.std.proofs.lemmas.Result.{err_from_is_err_and}
use Rattle.fugue_ids.proofs.JoinLemmas.{text_joins, text_stops}
use Rattle.order_proof.specs.Texts.{proof_line_text, reason_line}
use Rattle.order_proof.proofs.writing.write_step.Goals as goal

pub returns-in_err-write_chains : goal.returns-in_err-write_chains
returns-in_err-write_chains g c =
    let p = err_from_is_err_and c.from_residual.result c.from_residual.ensures.1 in
    rw (p.1, p.2) (text_stops c.in_err-write_chains.field-0.0 _ _ _ (proof_line_text (reason_line c.args.step.now.reason)) c.in_err-write_chains.ensures)

pub returns : goal.returns
returns g c = text_joins c.in_ok-write_chains.field-0 _ _ _ _ _ _ c.in_ok-write_chains.ensures c.write_reason.ensures
