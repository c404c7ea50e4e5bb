use Rattle.std.proofs.Common.{List, ap, arith, length}
use Rattle.fugue_ids.specs.declared.op.Op.{Op}
use Rattle.origin_model.specs.frames.Frames.{single_frames}
use Rattle.origin_model.proofs.SharedLemmas.{framing_read, framing_short, read_too, written, written_framing, written_once}
use Rattle.op_frame.proofs.law.frames_are.Goals as goal

pub returns : goal.returns
returns c = record {
  written = written;
  one = written_once;
  framing = written_framing;
  read = framing_read;
  short = λ ops bytes f. omega (arith, framing_short f.found f.are_frames, ap length f.bytes_are, ap (λ (l : List Op). length (single_frames l)) f.ops_are);
  version_1 = read_too;
}
