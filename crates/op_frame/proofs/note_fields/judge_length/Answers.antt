use Rattle.std.proofs.Common.{arith}
use Rattle.op_frame.proofs.NoteLemmas.{body_high_front, body_length_done}
use Rattle.op_frame.proofs.note_fields.judge_length.Goals as goal

pub returns-then-bytes-eq1 : goal.returns-then-bytes-eq1
returns-then-bytes-eq1 c = (omega (arith, c.if-bytes-eq1.true), body_high_front c.args.bytes.now c.if-bytes-eq1.true c.if-high-gt-LONGEST_BODY.false)

pub returns : goal.returns
returns c =
    rw c.body_due.ensures (body_length_done c.args.bytes.now _
    (omega (arith, c.requires.some, c.requires.short, c.if-bytes-eq1.false)) c.short_number-len.ensures.bytes c.if-len-gt-LONGEST_BODY.false)
