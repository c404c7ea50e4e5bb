use Rattle.std.proofs.lemmas.Result.{err_from_is_err_and}
use Rattle.fugue_ids.specs.Runs.{run_from}
use Rattle.replica_core.proofs.FeedingLemmas.{fed_on, fed_some}
use Rattle.replica_core.proofs.open_replica.OpenReplica.feed_run.Goals as goal

pub returns-in_err-count-clause-err : goal.returns-in_err-count-clause-err
returns-in_err-count-clause-err c =
    let p = err_from_is_err_and c.from_residual.result c.from_residual.ensures.1 in
    rw (p.1, p.2) (fed_some c.args.self.now.state c.fronts.self.state c.feed_front.new.self.state c.args.tally.now c.fronts.tally c.feed_front.new.tally
    (run_from c.args.start.now c.args.text.now)
    c.fronts.next c.fronts.rest.now c.in_err-count.field-0.0 c.fronts.invariant c.in_err-count.ensures.err)

pub fronts-preserved : goal.fronts-preserved
fronts-preserved c =
    fed_on c.args.self.now.state c.fronts.self.state c.feed_front.new.self.state c.args.tally.now c.fronts.tally c.feed_front.new.tally (run_from c.args.start.now c.args.text.now)
    c.fronts.next c.split_at-behind.result.1 c.fronts.rest.now c.split_at-behind.result.0.now c.split_at-behind.result.2.now c.in_ok-count.count c.fronts.invariant
    c.in_ok-count.ensures.within c.in_ok-count.ensures.ok c.feed_front.ensures.sound c.split_at-behind.ensures.front c.split_at-behind.ensures.rest c.split_at-behind.ensures.whole
    c.split_at-behind.ensures.next
