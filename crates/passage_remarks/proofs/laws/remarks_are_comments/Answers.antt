use Rattle.passage_remarks.proofs.LawLemmas.{are_comments}
use Rattle.passage_remarks.proofs.laws.remarks_are_comments.Goals as goal

pub returns : goal.returns
returns c = are_comments
