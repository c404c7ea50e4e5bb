use Rattle.std.proofs.Common.{length, ◌-◌}
use Rattle.op_frame.proofs.StepLemmas.{Stands}
use Rattle.op_frame.proofs.step.take_next.Given as goal

abbrev pub invariant-reads : goal.invariant-reads
invariant-reads g l = Stands l.initial.unread.bytes l.unread.bytes (g.S.Source.seen l.initial.source) (g.S.Source.seen l.source) l.room

abbrev pub decreases-reads : goal.decreases-reads
decreases-reads g l = l.room - length l.unread.bytes
