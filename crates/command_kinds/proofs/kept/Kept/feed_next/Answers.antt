use Rattle.std.proofs.Common.{arith, false}
use Rattle.fugue_ids.proofs.RunLemmas.{length-typed}
use Rattle.op_runs.proofs.DeletionLemmas.{length-deletes}
use Rattle.command_kinds.proofs.KeptLemmas.{one_unfed}
use Rattle.command_kinds.proofs.kept.Kept.feed_next.Goals as goal

pub feed_run-requires-clause-counts_rise : goal.feed_run-requires-clause-counts_rise
feed_run-requires-clause-counts_rise c =
    let start = c.in-Run.start in
    let counts = rw c.in-Run.is at c.requires.counts_rise in
    omega (arith, counts, length-typed start.id start.section start.left start.right c.args.text.now)

pub feed_deletes-requires-clause-counts_rise : goal.feed_deletes-requires-clause-counts_rise
feed_deletes-requires-clause-counts_rise c =
    let counts = rw c.in-Deletes.is at c.requires.counts_rise in
    omega (arith, counts, length-deletes false c.in-Deletes.first c.in-Deletes.count)

pub returns-in-Single-clause-err : goal.returns-in-Single-clause-err
returns-in-Single-clause-err c = rw c.in-Single.is (one_unfed c.args.replica.now c.in-Single.op c.feed.result c.feed.ensures.err)
