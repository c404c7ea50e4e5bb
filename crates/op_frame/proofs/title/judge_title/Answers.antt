use Rattle.std.proofs.Common.{arith}
use Rattle.op_frame.proofs.DueLemmas.{length_done}
use Rattle.op_frame.proofs.title.judge_title.Goals as goal

pub returns : goal.returns
returns c =
    length_done _ _ (omega (arith, c.requires.some, c.requires.short, c.if-bytes-eq1.false)) c.short_number-len.ensures.bytes
    (omega (arith, c.if-len-eq0.false)) c.if-len-gt-LONGEST_TITLE.false
