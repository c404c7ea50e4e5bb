use Rattle.std.proofs.Common.{[], ◌∷◌}
use Rattle.std.proofs.lemmas.Result.{err_from_is_err_and}
use Rattle.fugue_ids.proofs.JoinLemmas.{text_joins, text_stops}
use Rattle.order_proof.proofs.writing.write_rest.Goals as goal

pub returns-in_err-write_ids : goal.returns-in_err-write_ids
returns-in_err-write_ids g c =
    let p = err_from_is_err_and c.from_residual.result c.from_residual.ensures.1 in
    rw (p.1, p.2) (text_stops c.in_err-write_ids.field-0.0 _ _ _ (10 ∷ []) c.in_err-write_ids.ensures)

pub returns : goal.returns
returns g c = text_joins c.in_ok-write_ids.field-0 _ _ _ _ _ _ c.in_ok-write_ids.ensures c.write_whole.ensures
