use Rattle.margin_notes.proofs.SpanLemmas.{span_is_passage}
use Rattle.margin_notes.proofs.laws.span_is_passage.Goals as goal

pub returns : goal.returns
returns c = span_is_passage
