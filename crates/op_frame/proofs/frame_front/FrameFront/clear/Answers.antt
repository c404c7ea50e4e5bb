use Rattle.std.proofs.Common.{arith}
use Rattle.op_frame.proofs.FrameFrontLemmas.{awaits_all}
use Rattle.op_frame.proofs.frame_front.FrameFront.clear.Goals as goal

pub invariant_of-self : goal.invariant_of-self
invariant_of-self c = (omega arith, omega arith, awaits_all c.self.inside.grammar)
