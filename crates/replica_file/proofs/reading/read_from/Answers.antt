use Rattle.std.proofs.Common.{arith}
use Rattle.replica_file.proofs.ReachLemmas.{more_reaches}
use Rattle.replica_file.proofs.ReadingLemmas.{looked, looks_then, read_on}
use Rattle.replica_file.proofs.reading.read_from.Goals as goal

pub reads-preserved : goal.reads-preserved
reads-preserved g c =
    let kept = c.reads.invariant in
    record {
      within = omega (arith, c.in_ok-count.ensures.read.bound, c.in_ok-count.ensures.long, kept.within);
      looks = looks_then ⊥ (g.H.Disk.seen c.args.disk.now) (g.H.Disk.seen c.reads.disk) (g.H.Disk.seen c.read_more.new.disk) kept.looks
          (looked (g.H.Disk.seen c.reads.disk) (g.H.Disk.seen c.read_more.new.disk) c.in_ok-count.count c.in_ok-count.ensures.read.looks c.in_ok-count.ensures.read.sizes);
      reach = more_reaches (g.H.Disk.seen c.args.disk.now) (g.H.Disk.seen c.reads.disk)
          (g.H.Disk.seen c.read_more.new.disk) c.args.at c.reads.filled c.in_ok-count.count _ _ kept.within c.in_ok-count.ensures kept.reach;
      specified = read_on (g.H.Disk.seen c.args.disk.now) (g.H.Disk.seen c.reads.disk)
          (g.H.Disk.seen c.read_more.new.disk) c.args.at c.reads.filled c.in_ok-count.count _ _ kept.looks.past kept.within c.in_ok-count.ensures kept.specified;
    }

pub returns-then-count-eq0-clause-reach : goal.returns-then-count-eq0-clause-reach
returns-then-count-eq0-clause-reach g c =
    let kept = c.reads.invariant in
    more_reaches (g.H.Disk.seen c.args.disk.now) (g.H.Disk.seen c.reads.disk)
    (g.H.Disk.seen c.read_more.new.disk) c.args.at c.reads.filled c.in_ok-count.count _ _ kept.within c.in_ok-count.ensures kept.reach
