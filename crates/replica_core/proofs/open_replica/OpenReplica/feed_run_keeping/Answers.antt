use Rattle.std.proofs.Common.{ap, subst}
use Rattle.std.proofs.lemmas.Result.{err_from_is_err_and}
use Rattle.fugue_ids.specs.Runs.{run_from}
use Rattle.origin_model.specs.edits.State.{IsSound}
use Rattle.replica_core.proofs.FeedingLemmas.{keeping, kept_on, kept_some}
use Rattle.replica_core.proofs.open_replica.OpenReplica.feed_run_keeping.Goals as goal

pub fronts-init : goal.fronts-init
fronts-init c =
    keeping c.args.self.now.state c.args.tally.now c.args.kept.now c.args.start.now c.args.text.now
    (subst IsSound (ap (λ x. x.state) c.self.view_is) c.self.invariant.sound) c.requires.settled c.requires.counters c.requires.counts_rise

pub returns-in_err-count-clause-err : goal.returns-in_err-count-clause-err
returns-in_err-count-clause-err c =
    let p = err_from_is_err_and c.from_residual.result c.from_residual.ensures.1 in
    rw (p.1, p.2) (kept_some c.args.self.now.state c.fronts.self.state c.feed_front_keeping.new.self.state c.args.tally.now c.fronts.tally c.feed_front_keeping.new.tally
    c.args.kept.now c.fronts.kept
    c.feed_front_keeping.new.kept (run_from c.args.start.now c.args.text.now)
    c.fronts.next c.fronts.rest.now c.in_err-count.field-0.0 c.fronts.invariant c.in_err-count.ensures.err)

pub fronts-preserved : goal.fronts-preserved
fronts-preserved c =
    kept_on c.args.self.now.state c.fronts.self.state c.feed_front_keeping.new.self.state c.args.tally.now c.fronts.tally c.feed_front_keeping.new.tally c.args.kept.now
    c.fronts.kept
    c.feed_front_keeping.new.kept (run_from c.args.start.now c.args.text.now)
    c.fronts.next c.split_at-behind.result.1 c.fronts.rest.now c.split_at-behind.result.0.now c.split_at-behind.result.2.now c.in_ok-count.count c.fronts.invariant
    c.in_ok-count.ensures.within c.in_ok-count.ensures.ok c.feed_front_keeping.ensures.sound c.in_ok-count.ensures.kept c.split_at-behind.ensures.front
    c.split_at-behind.ensures.rest c.split_at-behind.ensures.whole
    c.split_at-behind.ensures.next
