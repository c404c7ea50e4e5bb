use Rattle.std.proofs.Common.{[], arith, length-append, ◌++◌, ◌∷◌}
use Rattle.std.proofs.lemmas.Result.{err_from_is_err_and}
use Rattle.replica_core.proofs.KeepingLemmas.{takes_more}
use Rattle.relay_sync.proofs.SyncingLemmas.{all_taken, given_more, none_taken, stays_below}
use Rattle.relay_sync.proofs.syncing.take_frame.Goals as goal

pub returns-in_err-ops-clause-err : goal.returns-in_err-ops-clause-err
returns-in_err-ops-clause-err c =
    let p = err_from_is_err_and c.from_residual.result c.from_residual.ensures.1 in
    rw (p.1, p.2) (none_taken _ _ c.requires.frame.0 c.requires.frame.1)

pub feed_keeping-requires-clause-counts_rise : goal.feed_keeping-requires-clause-counts_rise
feed_keeping-requires-clause-counts_rise c =
    let kept = c.ops.invariant in
    stays_below (record { replica = c.args.replica.now; counts = c.args.tally.now; kept = c.args.kept.now.items })
    (record { replica = c.ops.replica; counts = c.ops.tally; kept = c.ops.kept.items }) _ kept.given _ kept.is_message kept.count c.requires.few

pub ops-preserved : goal.ops-preserved
ops-preserved c =
    let kept = c.ops.invariant in
    let op = c.in-Some.op in
    let took = c.in_ok-feed_keeping.ensures.ok in
    record {
      given = kept.given ++ op ∷ [];
      is_message = given_more _ kept.given _ _ op kept.is_message c.in-Some.ensures;
      takes = takes_more _ _ _ kept.given op kept.takes (λ many. cc (c.in_ok-feed_keeping.ensures.too_many.1 many)) took;
      settled = took.settled;
      count = omega (arith, kept.count, took.once, length-append kept.given (op ∷ []));
    }

pub returns-clause-ok : goal.returns-clause-ok
returns-clause-ok c =
    let kept = c.ops.invariant in
    all_taken _ _ _ kept.given _ kept.is_message kept.count c.in_default.ensures.0 kept.takes kept.settled
