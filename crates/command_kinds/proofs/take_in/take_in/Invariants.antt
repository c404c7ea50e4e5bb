use Rattle.std.proofs.Common.{length, ◌*◌, ◌+◌, ◌-◌}
use Rattle.outer_ports.specs.Sources.{KeepsCount}
use Rattle.fugue_ids.specs.declared.limits.TheConstants.{STREAM_LIMIT}
use Rattle.command_kinds.specs.Intake.{IsReady}
use Rattle.command_kinds.proofs.IntakeLemmas.{FedFrom}
use Rattle.command_kinds.proofs.take_in.take_in.Given as goal

abbrev pub invariant-frames : goal.invariant-frames
invariant-frames g l = record {
  fed : FedFrom l.fn.replica l.fn.kept (g.S.Source.seen l.fn.source).left
      (record { reader = l.intake.reader; replica = l.replica; counts = l.intake.tally; kept = l.kept }) (g.S.Source.seen l.source).left;
  ready : IsReady (record { reader = l.intake.reader; replica = l.replica; counts = l.intake.tally; kept = l.kept });
  count : KeepsCount (g.S.Source.seen l.fn.source) (g.S.Source.seen l.source) ⊥;
}

abbrev pub decreases-frames : goal.decreases-frames
decreases-frames g l = STREAM_LIMIT + 3 * length l.intake.reader.todo - l.intake.reader.offset
