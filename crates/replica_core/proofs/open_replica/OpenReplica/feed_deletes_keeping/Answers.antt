use Rattle.std.proofs.Common.{subst, ◌++◌, ◌-◌, ◌≡◌}
use Rattle.std.proofs.lemmas.Result.{err_from_is_err_and}
use Rattle.fugue_ids.specs.Identifiers.{Identifier}
use Rattle.op_runs.specs.Deletions.{deletes_up}
use Rattle.origin_model.specs.edits.State.{IsSound}
use Rattle.origin_model.specs.taking.Taking.{kept_from}
use Rattle.replica_core.specs.Replica.{OpenState}
use Rattle.replica_core.specs.Feeding.{StopsKeeping, TakesInAll}
use Rattle.replica_core.proofs.DeletesFeedingLemmas.{keeping_row, row_fed_all, row_kept_all, row_kept_on, row_kept_some}
use Rattle.replica_core.proofs.open_replica.OpenReplica.feed_deletes_keeping.Goals as goal

pub fronts-init : goal.fronts-init
fronts-init c = keeping_row c.args.self.now.state c.args.tally.now c.args.kept.now c.args.first c.args.count
    (subst (λ (r : OpenState). IsSound r.state) c.self.view_is c.self.invariant.sound) c.requires.settled c.requires.counts_rise

pub returns-in_err-fed-clause-err : goal.returns-in_err-fed-clause-err
returns-in_err-fed-clause-err c =
    let p = err_from_is_err_and c.from_residual.result c.from_residual.ensures.1 in
    let fault = c.in_err-fed.field-0.0 in
    let fed = c.feed_deletes_front_keeping in
    rw (p.1, p.2) (row_kept_some c.args.self.now.state c.fronts.self.state fed.new.self.state c.args.tally.now c.fronts.tally fed.new.tally c.args.kept.now c.fronts.kept
    fed.new.kept c.args.first c.args.count c.fronts.done fault
    c.fronts.invariant c.fronts-test.true
    (subst (λ (y : Identifier). StopsKeeping (deletes_up y (c.args.count - c.fronts.done)) c.fronts.self.state fed.new.self.state c.fronts.tally fed.new.tally c.fronts.kept
    fed.new.kept fault) c.behind-next.ensures
    c.in_err-fed.ensures.err))

pub fronts-preserved : goal.fronts-preserved
fronts-preserved c =
    let fed = c.feed_deletes_front_keeping in
    let n = c.in_ok-fed.fed in
    row_kept_on c.args.self.now.state c.fronts.self.state fed.new.self.state c.args.tally.now c.fronts.tally fed.new.tally c.args.kept.now c.fronts.kept fed.new.kept c.args.first
    c.args.count c.fronts.done n
    c.fronts.invariant c.in_ok-fed.ensures.within c.fronts-test.true
    (subst (λ (y : Identifier). TakesInAll c.fronts.self.state fed.new.self.state (deletes_up y n) c.fronts.tally fed.new.tally) c.behind-next.ensures c.in_ok-fed.ensures.ok)
    fed.ensures.sound
    (subst (λ (y : Identifier). fed.new.kept ≡ c.fronts.kept ++ kept_from c.fronts.self.state.hold c.fronts.self.state.most c.fronts.self.state.held (deletes_up y n))
    c.behind-next.ensures c.in_ok-fed.ensures.kept)

pub returns-clause-ok : goal.returns-clause-ok
returns-clause-ok c = row_fed_all c.args.self.now.state c.fronts.self.state c.args.tally.now c.fronts.tally c.args.first c.args.count c.fronts.done c.fronts.invariant.feeds
    c.fronts-test.false

pub returns-clause-kept : goal.returns-clause-kept
returns-clause-kept c =
    row_kept_all c.args.self.now.state c.fronts.self.state c.args.tally.now c.fronts.tally c.args.kept.now c.fronts.kept c.args.first c.args.count c.fronts.done c.fronts.invariant
    c.fronts-test.false
