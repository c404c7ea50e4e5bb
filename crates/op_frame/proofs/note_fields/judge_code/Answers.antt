use Rattle.std.proofs.Common.{arith}
use Rattle.op_frame.proofs.NoteLemmas.{code_done}
use Rattle.op_frame.proofs.note_fields.judge_code.Goals as goal

pub returns : goal.returns
returns c = code_done c.args._code (omega (arith, c.ranges._code.fits))
