use Rattle.op_frame.proofs.NoteLemmas.{names_done}
use Rattle.op_frame.proofs.note_fields.judge_names.Goals as goal

pub returns : goal.returns
returns c = names_done c.args.count c.if-count-gt-MOST_NAMES.false
