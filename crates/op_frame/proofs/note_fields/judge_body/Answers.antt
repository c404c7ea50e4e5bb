use Rattle.std.proofs.Math.Facts.{Fits-lt-pow}
use Rattle.op_frame.proofs.NoteLemmas.{body_done}
use Rattle.op_frame.proofs.note_fields.judge_body.Goals as goal

pub returns : goal.returns
returns c = rw c.body_due.ensures (body_done c.args.bytes.now c.args.len (λ i. Fits-lt-pow (c.type_inv.bytes i)) c.requires.short c.requires.most)
