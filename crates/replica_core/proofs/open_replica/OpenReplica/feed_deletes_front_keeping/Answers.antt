use Rattle.std.proofs.Common.{ap, arith, refl}
use Rattle.std.specs.Prelude.{Err}
use Rattle.std.proofs.lemmas.Result.{err_from_is_err_and}
use Rattle.op_runs.specs.Deletions.{deletes_up}
use Rattle.replica_core.proofs.DeletesFeedingLemmas.{delete_unkept, row_back, row_copies_stop, row_joins, row_pushed, row_pushed_whole, row_repeats, row_uncopied}
use Rattle.replica_core.proofs.FeedingLemmas.{repeats_kept}
use Rattle.replica_core.proofs.open_replica.OpenReplica.feed_deletes_front_keeping.Goals as goal

pub returns-then-repeated-gt0-clause-ok : goal.returns-then-repeated-gt0-clause-ok
returns-then-repeated-gt0-clause-ok c =
    row_repeats c.args.self.now.state c.args.first c.deleted-repeated.result c.args.tally.now c.requires.settled c.deleted-repeated.ensures.there

pub returns-in_err-feed_keeping-clause-err : goal.returns-in_err-feed_keeping-clause-err
returns-in_err-feed_keeping-clause-err c =
    let p = err_from_is_err_and c.from_residual.result c.from_residual.ensures.1 in
    let many = c.in_err-feed_keeping.ensures.too_many in
    rw (p.1, p.2) (delete_unkept c.args.self.now.state c.feed_keeping.new.self.state c.args.first c.args.count c.args.tally.now c.feed_keeping.new.tally c.args.kept.now
    c.feed_keeping.new.kept c.in_err-feed_keeping.field-0.0
    c.requires.settled c.requires.some (λ e. many.0 (ap (λ f. Err f) e), λ e. let same = many.1 e in cc) c.in_err-feed_keeping.ensures.err c.in_err-feed_keeping.ensures.unkept)

pub returns-then-repeated-gt0-clause-kept : goal.returns-then-repeated-gt0-clause-kept
returns-then-repeated-gt0-clause-kept c =
    repeats_kept c.args.self.now.state (deletes_up c.args.first c.deleted-repeated.result) c.args.kept.now c.requires.settled c.deleted-repeated.ensures.there

pub returns-in_err-push_row-clause-err : goal.returns-in_err-push_row-clause-err
returns-in_err-push_row-clause-err c =
    let p = err_from_is_err_and c.from_residual-in_err-push_row.result c.from_residual-in_err-push_row.ensures.1 in
    rw (p.1, p.2) (row_uncopied c.args.self.now.state c.args.self.now.state c.args.first c.args.count _ c.args.tally.now c.args.kept.now _ c.in-Some.ensures.some
    c.in-Some.ensures.within c.in-Some.ensures.can refl
    c.in_err-push_row.ensures.err)

pub returns-in-Ok-clause-ok : goal.returns-in-Ok-clause-ok
returns-in-Ok-clause-ok c = row_joins c.args.self.now.state c.join_deletes.new.self.state c.args.first _ c.args.tally.now c.in-Some.ensures.can c.in-Ok.ensures.ok

pub returns-in-Ok-clause-kept : goal.returns-in-Ok-clause-kept
returns-in-Ok-clause-kept c =
    row_pushed c.args.self.now.state c.args.first _ c.args.kept.now _ c.in-Some.ensures.can c.in_ok-push_row.ensures.ok

pub returns-in-Err-clause-err : goal.returns-in-Err-clause-err
returns-in-Err-clause-err c =
    row_copies_stop c.args.self.now.state c.join_deletes.new.self.state c.args.first c.args.count _ c.in-Err.stopped.done c.args.tally.now c.in-Err.ensures.fewer
    c.in-Some.ensures.within c.in-Some.ensures.can c.in-Err.ensures.err
    c.args.kept.now _ (row_back c.args.first _ c.in-Err.stopped.done c.args.kept.now c.push_row.new.copies c.pop.new.self c.in-Err.ensures.fewer c.in_ok-push_row.ensures.ok
    c.pop.ensures)

pub pop-requires : goal.pop-requires
pop-requires c = omega (arith, row_pushed_whole c.args.first _ c.args.kept.now _ c.in_ok-push_row.ensures.ok)
