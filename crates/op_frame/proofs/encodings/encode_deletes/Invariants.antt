use Rattle.std.proofs.Common.{◌++◌, ◌≡◌, All}
use Rattle.origin_model.specs.frames.Frames.{HasFrame}
use Rattle.origin_model.specs.frames.Framings.{frames}
use Rattle.op_runs.specs.Deletions.{deletes_by}
use Rattle.op_frame.proofs.encodings.encode_deletes.Given as goal

abbrev pub invariant-loop-offset : goal.invariant-loop-offset
invariant-loop-offset l = record {
  items : l.out.items ≡ l.fn.out.items ++ frames (deletes_by l.deletes.down l.deletes.target l.offset);
  have_frames : All HasFrame (deletes_by l.deletes.down l.deletes.target l.offset);
}
