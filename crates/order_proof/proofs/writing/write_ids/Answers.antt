use Rattle.std.proofs.Common.{subst, ◌∷◌}
use Rattle.std.specs.Prelude.{Err}
use Rattle.std.proofs.lemmas.Result.{err_from_is_err_and}
use Rattle.fugue_ids.specs.Identifiers.{Identifier}
use Rattle.fugue_ids.specs.Outs.{WritesBytes}
use Rattle.fugue_ids.specs.declared.out.Failed.{Failed}
use Rattle.fugue_ids.proofs.JoinLemmas.{parts_stop}
use Rattle.order_proof.specs.Texts.{id_text}
use Rattle.order_proof.proofs.writing.write_ids.Goals as goal

pub returns-in_err-write_id : goal.returns-in_err-write_id
returns-in_err-write_id g c =
    let p = err_from_is_err_and c.from_residual.result c.from_residual.ensures.1 in
    let failed = subst (λ (z : Identifier). WritesBytes {E = Failed} {T = Unit {0}} (g.O.Out.seen c.ids.out) (g.O.Out.seen c.write_id.new.out) (Err c.in_err-write_id.field-0.0)
    (32 ∷ id_text z)) c.id-item.is c.in_err-write_id.ensures in
    rw p.1 (parts_stop (λ (id : Identifier). 32 ∷ id_text id) c.args.ids.now c.ids.id-index c.id-item.result _ tt _ _ _ c.ids-test.true c.ids.invariant failed)
