use Rattle.std.proofs.Common.{arith, ap, ◌<◌}
use Rattle.std.specs.Prelude.{Err}
use Rattle.std.proofs.lemmas.Result.{err_from_is_err_and}
use Rattle.replica_core.proofs.FeedingLemmas.{letter_stops, run_joins, run_repeats, run_stops}
use Rattle.replica_core.proofs.open_replica.OpenReplica.feed_front.Goals as goal

pub returns-in_err-feed-clause-err : goal.returns-in_err-feed-clause-err
returns-in_err-feed-clause-err c =
    let p = err_from_is_err_and c.from_residual.result c.from_residual.ensures.1 in
    let many = c.in_err-feed.ensures.too_many in
    rw (p.1, p.2) (letter_stops c.args.self.now.state c.feed.new.self.state c.args.start.now c.args.text.now c.index-text-0.result c.text.result c.args.tally.now c.feed.new.tally
    c.in_err-feed.field-0.0
    c.requires.settled c.requires.some c.index-text-0.is c.text.ensures (λ e. many.0 (ap (λ f. Err f) e), λ e. let same = many.1 e in cc) c.in_err-feed.ensures.err)

pub returns-in_err-join_run-clause-err : goal.returns-in_err-join_run-clause-err
returns-in_err-join_run-clause-err c =
    let p = err_from_is_err_and c.from_residual-in_err-join_run.result c.from_residual-in_err-join_run.ensures.1 in
    let some : 0 < c.joining-count.result = omega (arith, c.if-count-eq0.false) in
    rw (p.1, p.2) (run_stops c.args.self.now.state c.join_run.new.self.state c.args.start.now c.args.text.now c.joining-count.result c.args.tally.now some
    c.joining-count.ensures.within
    (c.joining-count.ensures.at_once some) c.in_err-join_run.ensures.err)

pub returns-clause-ok : goal.returns-clause-ok
returns-clause-ok c =
    let some : 0 < c.joining-count.result = omega (arith, c.if-count-eq0.false) in
    run_joins c.args.self.now.state c.join_run.new.self.state c.args.start.now c.args.text.now c.joining-count.result c.args.tally.now c.joining-count.ensures.within
    (c.joining-count.ensures.at_once some)
    c.in_ok-join_run.ensures.ok

pub returns-then-repeated-gt0-clause-ok : goal.returns-then-repeated-gt0-clause-ok
returns-then-repeated-gt0-clause-ok c =
    run_repeats c.args.self.now.state c.args.start.now c.args.text.now c.repeated-repeated.result c.args.tally.now c.repeated-repeated.ensures.within c.requires.settled
    c.repeated-repeated.ensures.there
