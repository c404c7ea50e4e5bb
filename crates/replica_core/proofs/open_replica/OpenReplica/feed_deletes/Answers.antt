use Rattle.std.proofs.Common.{subst, ◌-◌}
use Rattle.std.proofs.lemmas.Result.{err_from_is_err_and}
use Rattle.fugue_ids.specs.Identifiers.{Identifier}
use Rattle.op_runs.specs.Deletions.{deletes_up}
use Rattle.replica_core.specs.Feeding.{StopsFeeding, TakesInAll}
use Rattle.replica_core.proofs.DeletesFeedingLemmas.{row_fed_all, row_fed_on, row_fed_some}
use Rattle.replica_core.proofs.open_replica.OpenReplica.feed_deletes.Goals as goal

pub returns-in_err-fed-clause-err : goal.returns-in_err-fed-clause-err
returns-in_err-fed-clause-err c =
    let p = err_from_is_err_and c.from_residual.result c.from_residual.ensures.1 in
    let fault = c.in_err-fed.field-0.0 in
    rw (p.1, p.2) (row_fed_some c.args.self.now.state c.fronts.self.state c.feed_deletes_front.new.self.state c.args.tally.now c.fronts.tally c.feed_deletes_front.new.tally
    c.args.first c.args.count c.fronts.done fault
    c.fronts.invariant c.fronts-test.true
    (subst (λ (y : Identifier). StopsFeeding (deletes_up y (c.args.count - c.fronts.done)) c.fronts.self.state c.feed_deletes_front.new.self.state c.fronts.tally
    c.feed_deletes_front.new.tally fault) c.behind-next.ensures
    c.in_err-fed.ensures.err))

pub fronts-preserved : goal.fronts-preserved
fronts-preserved c =
    row_fed_on c.args.self.now.state c.fronts.self.state c.feed_deletes_front.new.self.state c.args.tally.now c.fronts.tally c.feed_deletes_front.new.tally c.args.first
    c.args.count c.fronts.done c.in_ok-fed.fed
    c.fronts.invariant c.in_ok-fed.ensures.within c.fronts-test.true
    (subst (λ (y : Identifier). TakesInAll c.fronts.self.state c.feed_deletes_front.new.self.state (deletes_up y c.in_ok-fed.fed) c.fronts.tally c.feed_deletes_front.new.tally)
    c.behind-next.ensures c.in_ok-fed.ensures.ok)
    c.feed_deletes_front.ensures.sound

pub returns-clause-ok : goal.returns-clause-ok
returns-clause-ok c = row_fed_all c.args.self.now.state c.fronts.self.state c.args.tally.now c.fronts.tally c.args.first c.args.count c.fronts.done c.fronts.invariant
    c.fronts-test.false
