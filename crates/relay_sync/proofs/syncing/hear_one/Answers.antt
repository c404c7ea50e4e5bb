use Rattle.std.proofs.Common.{[], arith, refl}
use Rattle.std.proofs.lemmas.Result.{err_from_is_err_and}
use Rattle.relay_sync.proofs.HearingLemmas.{no_bytes}
use Rattle.relay_sync.proofs.SyncingLemmas.{feed_fails, frame_first, stops_at, stops_first, whole_first}
use Rattle.relay_sync.proofs.syncing.hear_one.Goals as goal

pub returns-in_err-first-clause-err : goal.returns-in_err-first-clause-err
returns-in_err-first-clause-err g c =
    let p = err_from_is_err_and c.from_residual.result c.from_residual.ensures.1 in
    rw (p.1, p.2) (stops_at _ _ _ _ _ (c.in_err-first.ensures.err [] no_bytes (omega arith)))

pub returns-in_err-next_number-in-85-clause-err : goal.returns-in_err-next_number-in-85-clause-err
returns-in_err-next_number-in-85-clause-err g c =
    let p = err_from_is_err_and c.from_residual-in_err-next_number-in-85.result c.from_residual-in_err-next_number-in-85.ensures.1 in
    rw (p.1, p.2) (stops_first _ _ _ _ _ _ 0x55 _ c.in_ok-first.ensures.ok c.in-85.is c.in_err-next_number-in-85.ensures.err)

pub returns-in_ok-next_number-in-85-clause-ok : goal.returns-in_ok-next_number-in-85-clause-ok
returns-in_ok-next_number-in-85-clause-ok g c = (whole_first _ _ _ _ _ 0x55 _ _ c.in_ok-first.ensures.ok c.in-85.is c.in_ok-next_number-in-85.ensures.ok, refl)

pub returns-in_err-code-in-88-clause-err : goal.returns-in_err-code-in-88-clause-err
returns-in_err-code-in-88-clause-err g c =
    let p = err_from_is_err_and c.from_residual-in_err-code-in-88.result c.from_residual-in_err-code-in-88.ensures.1 in
    rw (p.1, p.2) (stops_first _ _ _ _ _ _ 0x58 _ c.in_ok-first.ensures.ok c.in-88.is c.in_err-code-in-88.ensures.err)

pub returns-in_err-next_frame-in_default-clause-err : goal.returns-in_err-next_frame-in_default-clause-err
returns-in_err-next_frame-in_default-clause-err g c =
    let p = err_from_is_err_and c.from_residual-in_err-next_frame-in_default.result c.from_residual-in_err-next_frame-in_default.ensures.1 in
    rw (p.1, p.2) (stops_first _ _ _ _ _ _ _ _ c.in_ok-first.ensures.ok refl c.in_err-next_frame-in_default.ensures.err)

pub returns-in_err-take_frame-in_default-clause-err : goal.returns-in_err-take_frame-in_default-clause-err
returns-in_err-take_frame-in_default-clause-err g c =
    let p = err_from_is_err_and c.from_residual-in_err-take_frame-in_default.result c.from_residual-in_err-take_frame-in_default.ensures.1 in
    let whole = frame_first _ _ _ _ _ _ _ c.in_ok-first.ensures.ok c.in_ok-next_frame-in_default.ensures.ok in
    rw (p.1, p.2) (feed_fails _ _ _ _ _ _ _ _ _ whole c.as_slice.ensures c.in_err-take_frame-in_default.ensures.err)
