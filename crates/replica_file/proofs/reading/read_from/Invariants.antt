use Rattle.std.proofs.Common.{◌≡◌, ◌+◌, ◌-◌, ◌≤◌, length, take, drop}
use Rattle.std.specs.Prelude.{IfSome}
use Rattle.replica_file.specs.Looks.{LooksOnly, ReadsNoFurther}
use Rattle.replica_file.proofs.reading.read_from.Given as goal

abbrev pub invariant-reads : goal.invariant-reads
invariant-reads g l = record {
  within : l.filled ≤ length l.buf;
  looks : LooksOnly (g.H.Disk.seen l.fn.disk) (g.H.Disk.seen l.disk) ⊥;
  reach : ReadsNoFurther (l.fn.at + length l.buf) (g.H.Disk.seen l.fn.disk) (g.H.Disk.seen l.disk);
  specified : IfSome (g.H.Disk.seen l.fn.disk).past (λ h. (take l.filled l.buf ≡ take l.filled (drop l.fn.at h.last.seen)) × (l.filled ≤ length (drop l.fn.at h.last.seen)));
}

abbrev pub decreases-reads : goal.decreases-reads
decreases-reads g l = length l.initial.buf - l.filled
