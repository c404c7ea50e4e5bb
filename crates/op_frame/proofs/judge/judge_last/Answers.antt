use Rattle.op_frame.proofs.DueLemmas.{nothing_due}
use Rattle.op_frame.proofs.judge.judge_last.Goals as goal

pub returns-in-Nothing : goal.returns-in-Nothing
returns-in-Nothing c = nothing_due c.args.last c.args.bytes.now c.in-Nothing.is c.requires.some
