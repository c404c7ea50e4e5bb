use Rattle.command_kinds.proofs.ActLemmas.{reported_result}
use Rattle.command_kinds.specs.Acts.{all_done, no_line}
use Rattle.command_kinds.proofs.text_out.ended.Goals as goal

pub returns-in-Err : goal.returns-in-Err
returns-in-Err g c = rw (c.in-Err.is, c.tell.ensures.status) (reported_result no_line all_done c.in-Err.why _ c.tell.ensures.reported)
