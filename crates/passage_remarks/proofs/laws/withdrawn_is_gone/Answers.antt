use Rattle.passage_remarks.proofs.LawLemmas.{withdrawn_gone}
use Rattle.passage_remarks.proofs.laws.withdrawn_is_gone.Goals as goal

pub returns : goal.returns
returns c = withdrawn_gone
