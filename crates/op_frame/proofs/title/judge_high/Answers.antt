use Rattle.std.proofs.Common.{arith}
use Rattle.op_frame.proofs.DueLemmas.{high_front}
use Rattle.op_frame.proofs.title.judge_high.Goals as goal

pub returns-else-high-gt1 : goal.returns-else-high-gt1
returns-else-high-gt1 c = (omega arith, high_front c.args.high c.if-high-gt1.false)
