use Rattle.std.proofs.Common.{length, vec_capacity, ◌*◌, ◌+◌, ◌-◌, ◌≤◌}
use Rattle.op_frame.specs.NextRuns.{GathersTexts}
use Rattle.op_frame.proofs.reader.FrameReader.gather_texts.Given as goal

abbrev pub invariant-texts : goal.invariant-texts
invariant-texts l = record {
  gathers : GathersTexts l.start l.initial.text.items l.text.items l.initial.self l.self;
  room : vec_capacity l.initial.text ≤ vec_capacity l.text;
}

abbrev pub decreases-texts : goal.decreases-texts
decreases-texts l = l.self.limit + 3 * length l.self.todo - l.self.offset
