use Rattle.std.proofs.Common.{arith}
use Rattle.std.proofs.Math.Facts.{Fits-lt-pow}
use Rattle.op_frame.proofs.DueLemmas.{high_count}
use Rattle.op_frame.proofs.run_fields.judge_count.Goals as goal

pub returns-then-bytes-eq1 : goal.returns-then-bytes-eq1
returns-then-bytes-eq1 c = (
  omega (arith, c.if-bytes-eq1.true),
  high_count c.args.most c.args.bytes.now c.if-bytes-eq1.true c.requires.two (Fits-lt-pow (c.type_inv.bytes 0)) c.if-high-most.false,
)
