use Rattle.std.proofs.Common.{[], ◌++◌, ◌∷◌}
use Rattle.std.specs.Prelude.{flat_map}
use Rattle.std.proofs.lemmas.Result.{err_from_is_err_and}
use Rattle.fugue_ids.proofs.JoinLemmas.{text_joins, text_stops}
use Rattle.order_proof.specs.Texts.{id_text}
use Rattle.order_proof.proofs.writing.write_line.Goals as goal

pub returns-in_err-write_whole : goal.returns-in_err-write_whole
returns-in_err-write_whole g c =
    let p = err_from_is_err_and c.from_residual.result c.from_residual.ensures.1 in
    rw (p.1, p.2) (text_stops c.in_err-write_whole.field-0.0 _ _ _ (flat_map (λ id. 32 ∷ id_text id) c.args.line.now.ids.now ++ 10 ∷ []) c.in_err-write_whole.ensures)

pub returns : goal.returns
returns g c = text_joins c.in_ok-write_whole.field-0 _ _ _ _ _ _ c.in_ok-write_whole.ensures c.write_rest.ensures
