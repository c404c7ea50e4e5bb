use Rattle.relay_sync.proofs.CountLemmas.{wire_on}
use Rattle.std.proofs.lemmas.Result.{err_from_is_err_and}
use Rattle.relay_sync.proofs.SyncingLemmas.{goes_on, goes_to_end, goes_to_fault, is_end, is_more}
use Rattle.relay_sync.proofs.syncing.hear.Goals as goal

pub returns-in_err-end-clause-err : goal.returns-in_err-end-clause-err
returns-in_err-end-clause-err g c =
    let p = err_from_is_err_and c.from_residual.result c.from_residual.ensures.1 in
    rw (p.1, p.2) (c.hear_one.new.tally, goes_to_fault _ _ _ _ _ _ _ c.messages.invariant.goes _ c.in_err-end.ensures.err)

pub returns-in-Some-clause-ok : goal.returns-in-Some-clause-ok
returns-in-Some-clause-ok g c =
    let ended = is_end _ _ _ _ _ _ _ _ c.in-Some.is c.in_ok-end.ensures.ok in
    goes_to_end _ _ _ _ _ _ _ c.messages.invariant.goes _ _ ended.0 ended.1

pub messages-preserved : goal.messages-preserved
messages-preserved g c =
    let one = is_more _ _ _ _ _ _ _ c.in_default.not-Some c.in_ok-end.ensures.ok in
    record {
      grammar = c.in_ok-end.ensures.grammar;
      goes = goes_on _ _ _ _ _ _ _ c.messages.invariant.goes _ one;
      reported = wire_on ⊥ _ _ _ c.messages.invariant.reported c.in_ok-end.ensures.reported;
      ready = one.ready;
    }
