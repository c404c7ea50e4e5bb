use Rattle.draft_plan.proofs.SpanLemmas.{passages_are_spans}
use Rattle.draft_plan.proofs.laws.passages_are_spans.Goals as goal

pub returns : goal.returns
returns c = passages_are_spans
