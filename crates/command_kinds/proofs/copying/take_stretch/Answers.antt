use Rattle.std.proofs.Common.{arith}
use Rattle.op_runs.proofs.DeletionLemmas.{length-deletes}
use Rattle.command_kinds.proofs.copying.take_stretch.Goals as goal

pub take_deletes-requires-clause-counts_rise : goal.take_deletes-requires-clause-counts_rise
take_deletes-requires-clause-counts_rise c =
    let d = c.in-Deleted.deletes in
    let counts = rw c.in-Deleted.is at c.requires.counts_rise in
    omega (arith, counts, length-deletes d.down d.target d.count)
