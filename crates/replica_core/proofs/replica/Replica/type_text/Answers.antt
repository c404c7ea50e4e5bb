use Rattle.std.proofs.Common.{ap, arith, subst, sym, ◌∙◌}
use Rattle.std.specs.Str.{chars}
use Rattle.std.proofs.lemmas.Result.{err_from_is_err_and}
use Rattle.origin_model.specs.edits.Effect.{with_ops}
use Rattle.replica_core.specs.Edits.{CanJoin, typed_at}
use Rattle.replica_core.proofs.JoinLemmas.{gains, stops_at_once}
use Rattle.replica_core.proofs.RunLemmas.{typed_run, typed_some}
use Rattle.replica_core.proofs.replica.Replica.type_text.Goals as goal

pub returns-in_err-letters-clause-err : goal.returns-in_err-letters-clause-err
returns-in_err-letters-clause-err c =
    let s = c.args.self.now in
    let cs = chars c.args.text.now in
    let p = err_from_is_err_and c.from_residual.result c.from_residual.ensures.1 in
    rw p.1 (stops_at_once s (typed_at s.number c.args.spot cs) (typed_some s.number c.args.spot cs (omega (arith, c.requires.counted, c.if-spot-eq0.false))))

pub join_run-requires-clause-can : goal.join_run-requires-clause-can
join_run-requires-clause-can c =
    let s = c.args.self.now in
    subst (CanJoin s)
    (sym (typed_run s.number c.args.spot c.own_id.result (chars c.args.text.now) c.as_slice.result.now c.own_id.ensures.id (c.as_slice.ensures.value ∙ c.in_ok-letters.ensures)))
    c.requires.can_join

pub returns-in_err-join_run-clause-err : goal.returns-in_err-join_run-clause-err
returns-in_err-join_run-clause-err c =
    let s = c.args.self.now in
    let cs = chars c.args.text.now in
    let p = err_from_is_err_and c.from_residual-in_err-join_run.result c.from_residual-in_err-join_run.ensures.1 in
    rw (p.1, c.in_err-join_run.ensures.err)
    (stops_at_once s (typed_at s.number c.args.spot cs) (typed_some s.number c.args.spot cs (omega (arith, c.requires.counted, c.if-spot-eq0.false))))

pub returns-clause-ok : goal.returns-clause-ok
returns-clause-ok c =
    let s = c.args.self.now in
    let cs = chars c.args.text.now in
    gains s c.join_run.new.self (typed_at s.number c.args.spot cs)
    (c.in_ok-join_run.ensures.ok ∙ ap (with_ops s)
    (typed_run s.number c.args.spot c.own_id.result cs c.as_slice.result.now c.own_id.ensures.id (c.as_slice.ensures.value ∙ c.in_ok-letters.ensures)))
