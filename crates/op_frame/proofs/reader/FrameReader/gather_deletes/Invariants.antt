use Rattle.std.proofs.Common.{◌-◌}
use Rattle.op_frame.specs.NextRuns.{GathersDeletes}
use Rattle.op_frame.proofs.reader.FrameReader.gather_deletes.Given as goal

abbrev pub invariant-deletes : goal.invariant-deletes
invariant-deletes l = GathersDeletes l.first l.count l.initial.self l.self

abbrev pub decreases-deletes : goal.decreases-deletes
decreases-deletes l = 1024 - l.count
