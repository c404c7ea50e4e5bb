use Rattle.std.proofs.Common.{sym}
use Rattle.std.proofs.lemmas.Result.{err_from_is_err_and}
use Rattle.fugue_ids.specs.declared.out.Failed.{Failed}
use Rattle.relay_sync.proofs.SendingLemmas.{replied_ended, replied_front, replied_on, replied_open}
use Rattle.relay_sync.proofs.serving.send_reply.Goals as goal

pub returns-in_err-end-clause-err : goal.returns-in_err-end-clause-err
returns-in_err-end-clause-err g c =
    let p = err_from_is_err_and c.from_residual-in_err-end.result c.from_residual-in_err-end.ensures.1 in
    rw p.1 (replied_open {E = Failed} {T = Unit {0}} {F = Failed} {S = Unit {0}} tt _ _ _ _ c.args.reply.now
    (rw (sym c.as_slice.ensures) c.in_ok-send_whole.ensures) c.in_err-end.ensures c.if-reply.true)

pub returns-in_ok-end-clause-ok : goal.returns-in_ok-end-clause-ok
returns-in_ok-end-clause-ok g c =
    replied_ended {E = Failed} {T = Unit {0}} {F = Failed} {S = Unit {0}} tt tt _ _ _ c.args.reply.now c.if-reply.true
    (rw (sym c.as_slice.ensures) c.in_ok-send_whole.ensures) c.in_ok-end.ensures

pub returns-else-reply-clause-ok : goal.returns-else-reply-clause-ok
returns-else-reply-clause-ok g c =
    replied_on {E = Failed} {T = Unit {0}} tt _ _ c.args.reply.now c.if-reply.false (rw (sym c.as_slice.ensures) c.in_ok-send_whole.ensures)

pub returns-in_err-send_whole-clause-err : goal.returns-in_err-send_whole-clause-err
returns-in_err-send_whole-clause-err g c =
    let p = err_from_is_err_and c.from_residual.result c.from_residual.ensures.1 in
    rw p.1 (replied_front {E = Failed} {T = Unit {0}} c.in_err-send_whole.field-0.0 _ _ c.args.reply.now (rw (sym c.as_slice.ensures) c.in_err-send_whole.ensures))
