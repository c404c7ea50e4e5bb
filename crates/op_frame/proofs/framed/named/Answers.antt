use Rattle.op_frame.proofs.TitleLemmas.{title_of}
use Rattle.op_frame.proofs.framed.named.Goals as goal

pub returns : goal.returns
returns c = title_of _ _ c.as_str-text.ensures.text c.as_str-text.utf8 c.as_str-text.ensures.is_title
