use Rattle.std.proofs.Common.{arith}
use Rattle.replica_file.proofs.ReachLemmas.{reaches_then}
use Rattle.replica_file.proofs.front.read_both.Goals as goal

pub returns-clause-reach : goal.returns-clause-reach
returns-clause-reach g c =
    reaches_then 13 14 14 (g.H.Disk.seen c.args.disk.now).reach (g.H.Disk.seen c.read_header.new.disk).reach (g.H.Disk.seen c.read_gate.new.disk).reach (omega arith)
    (omega arith) c.in_ok-header.ensures.reach c.in_ok-gate.ensures.reach
