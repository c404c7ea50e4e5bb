use Rattle.std.proofs.Common.{ap}
use Rattle.std.specs.Prelude.{Err}
use Rattle.std.proofs.lemmas.Result.{err_from_is_err_and}
use Rattle.replica_core.proofs.DeletesFeedingLemmas.{delete_stops, row_joins, row_repeats, row_stops}
use Rattle.replica_core.proofs.open_replica.OpenReplica.feed_deletes_front.Goals as goal

pub returns-then-repeated-gt0-clause-ok : goal.returns-then-repeated-gt0-clause-ok
returns-then-repeated-gt0-clause-ok c =
    row_repeats c.args.self.now.state c.args.first c.deleted-repeated.result c.args.tally.now c.requires.settled c.deleted-repeated.ensures.there

pub returns-in_err-feed-clause-err : goal.returns-in_err-feed-clause-err
returns-in_err-feed-clause-err c =
    let p = err_from_is_err_and c.from_residual.result c.from_residual.ensures.1 in
    let many = c.in_err-feed.ensures.too_many in
    rw (p.1, p.2) (delete_stops c.args.self.now.state c.feed.new.self.state c.args.first c.args.count c.args.tally.now c.feed.new.tally c.in_err-feed.field-0.0 c.requires.settled
    c.requires.some
    (λ e. many.0 (ap (λ f. Err f) e), λ e. let same = many.1 e in cc) c.in_err-feed.ensures.err)

pub returns-in-Ok-clause-ok : goal.returns-in-Ok-clause-ok
returns-in-Ok-clause-ok c = row_joins c.args.self.now.state c.join_deletes.new.self.state c.args.first _ c.args.tally.now c.in-Some.ensures.can c.in-Ok.ensures.ok

pub returns-in-Err-clause-err : goal.returns-in-Err-clause-err
returns-in-Err-clause-err c =
    row_stops c.args.self.now.state c.join_deletes.new.self.state c.args.first c.args.count _ c.in-Err.stopped.done c.args.tally.now c.in-Err.ensures.fewer
    c.in-Some.ensures.within c.in-Some.ensures.can c.in-Err.ensures.err
