use Rattle.std.proofs.Common.{arith}
use Rattle.op_frame.proofs.GatherLemmas.{gathers_then}
use Rattle.op_frame.proofs.reader.FrameReader.gather_texts.Goals as goal

pub texts-preserved : goal.texts-preserved
texts-preserved c = record {
  gathers = gathers_then _ _ _ _ _ _ _ c.texts.invariant.gathers c.texts-test.ensures.gathers.0;
  room = omega (arith, c.texts.invariant.room, c.gather_more.ensures.room);
}
