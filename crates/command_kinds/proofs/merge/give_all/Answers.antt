use Rattle.std.proofs.Common.{[]}
use Rattle.std.specs.Prelude.{Some}
use Rattle.std.proofs.lemmas.Result.{err_from_is_err_and}
use Rattle.origin_model.specs.operations.History.{accepted}
use Rattle.replica_core.proofs.FeedingLemmas.{takes_on}
use Rattle.command_kinds.proofs.CopyingLemmas.{both_kept, fault_further, fault_whole}
use Rattle.command_kinds.proofs.IntakeLemmas.{fresh_counts}
use Rattle.command_kinds.proofs.MergeLemmas.{merge_gives, merge_gives_none}
use Rattle.command_kinds.proofs.merge.give_all.Goals as goal

pub returns-in_err-take_copies : goal.returns-in_err-take_copies
returns-in_err-take_copies c =
    let p = err_from_is_err_and c.from_residual.result c.from_residual.ensures.1 in
    let fault = c.in_err-take_copies.field-0.0 in
    rw (p.1, p.2) (record {
      gives = merge_gives_none fault c.args.replica.now c.take_copies.new.replica c.args.other.now c.take_copies.new.kept
          (fault_whole fault c.args.replica.now _ c.args.other.now.held.waiting (rw c.accepted.ensures.accepted at c.in_err-take_copies.ensures.err));
    })

pub returns-in_err-take_copies-2 : goal.returns-in_err-take_copies-2
returns-in_err-take_copies-2 c =
    let p = err_from_is_err_and c.from_residual-in_err-take_copies-2.result c.from_residual-in_err-take_copies-2.ensures.1 in
    let fault = c.in_err-take_copies-2.field-0.0 in
    rw (p.1, p.2) (record {
      gives = merge_gives_none fault c.args.replica.now c.take_copies-2.new.replica c.args.other.now c.take_copies-2.new.kept
          (fault_further fault c.args.replica.now c.take_copies.new.replica _ _ _ _ (rw c.accepted.ensures.accepted at c.in_ok-take_copies.ensures.ok)
          (rw (c.of-waiting.ensures, c.waiting.ensures.waiting) at c.in_err-take_copies-2.ensures.err));
    })

pub returns : goal.returns
returns c =
    let first = rw (c.accepted.ensures.accepted, fresh_counts _ c.default-tally.ensures) at c.in_ok-take_copies.ensures.ok in
    let then = rw (c.of-waiting.ensures, c.waiting.ensures.waiting) at c.in_ok-take_copies-2.ensures.ok in
    let one = rw (c.accepted.ensures.accepted, c.requires.none_kept) at c.in_ok-take_copies.ensures.kept in
    let two = rw (c.of-waiting.ensures, c.waiting.ensures.waiting) at c.in_ok-take_copies-2.ensures.kept in
    record {
      gives = merge_gives c.args.replica.now c.take_copies-2.new.replica c.args.other.now c.take_copies-2.new.tally c.take_copies-2.new.kept (takes_on _ _ _ _ _ _ _ _ first then)
          (both_kept c.args.replica.now c.take_copies.new.replica (accepted c.args.other.now.held.history) c.args.other.now.held.waiting
          (Some []) c.take_copies.new.kept c.take_copies-2.new.kept first.replica one two) c.of.result c.requires.ready.settled c.of.ensures;
    }
