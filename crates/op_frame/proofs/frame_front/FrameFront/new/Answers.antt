use Rattle.std.proofs.Common.{arith}
use Rattle.op_frame.proofs.FrameFrontLemmas.{awaits_all}
use Rattle.op_frame.proofs.frame_front.FrameFront.new.Goals as goal

pub invariant_of-result : goal.invariant_of-result
invariant_of-result c = (omega arith, omega arith, awaits_all c.args.grammar)
