use Rattle.std.proofs.Common.{subst, sym}
use Rattle.std.specs.Str.{IsUtf8}
use Rattle.op_frame.proofs.DecodingLemmas.{text_there, title_there}
use Rattle.op_frame.proofs.TitleLemmas.{title_end}
use Rattle.op_frame.proofs.decoding.title.Goals as goal

pub unreachable-requires : goal.unreachable-requires
unreachable-requires c = c.in_default.ensures.cases.0 (subst IsUtf8 (sym (text_there c.args.bytes.now c.requires)) (title_end c.requires.0 c.requires.1).0)

pub returns-in-Ok-read : goal.returns-in-Ok-read
returns-in-Ok-read c = title_there c.args.bytes.now _ _ c.requires c.in-Ok-read.ensures.ok c.in-Ok.ensures.cases.0
