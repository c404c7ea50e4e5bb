use Rattle.cluster_text.proofs.EndingLemmas.{ending-none}
use Rattle.cluster_text.proofs.ending.Ending.new.Goals as goal

pub returns : goal.returns
returns c = ending-none
