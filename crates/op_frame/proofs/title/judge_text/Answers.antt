use Rattle.std.proofs.Common.{ap, arith, sym, ◌∙◌}
use Rattle.std.specs.Prelude.{is_some}
use Rattle.op_frame.proofs.DueLemmas.{text_done}
use Rattle.op_frame.proofs.TitleLemmas.{cut_front, fault_none, last_none, wide_none}
use Rattle.op_frame.proofs.title.judge_text.Goals.{then-bytes-len-via-then-bytes-len, then-bytes-len-via-else-bytes-len+then-is_some}
use Rattle.op_frame.proofs.title.judge_text.Goals as goal

pub returns-in_default : goal.returns-in_default
returns-in_default c =
    rw c.text_due.ensures (text_done c.args.bytes.now c.args.len c.in_default.ensures.cases.1
    (sym c.has_line_end.ensures ∙ c.if-has_line_end.false) c.requires.short c.requires.most)

pub returns-then-bytes-len : goal.returns-then-bytes-len
returns-then-bytes-len c = elim c.then-bytes-len.branch [
  | then-bytes-len-via-then-bytes-len w ↦ last_none c.args.len c.args.bytes.now w.if-bytes-len.true c.in-Err.ensures.cases.0
  | then-bytes-len-via-else-bytes-len+then-is_some w ↦ fault_none c.args.len c.args.bytes.now _ _ c.in-Err.ensures.cases.1 c.in-Err.ensures.fault
      (ap is_some (sym w.error_len.ensures) ∙ sym w.is_some.ensures ∙ w.if-is_some.true)
]

pub returns-then-len-at : goal.returns-then-len-at
returns-then-len-at c = wide_none c.args.len c.args.bytes.now _ _ _ c.in-Err.ensures.cases.1 c.valid_up_to-at.ensures c.width.ensures c.if-len-at.true

pub returns : goal.returns
returns c = (
  omega (arith, c.requires.short, c.if-bytes-len.false),
  cut_front c.args.len c.args.bytes.now _ _ _ _ (sym c.has_line_end.ensures ∙ c.if-has_line_end.false) c.in-Err.ensures.cases.1 c.in-Err.ensures.error_len c.in-Err.ensures.fault
      (ap is_some (sym c.error_len.ensures) ∙ sym c.is_some.ensures ∙ c.if-is_some.false) c.valid_up_to-at.ensures c.width.ensures c.if-len-at.false,
)
