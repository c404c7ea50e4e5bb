use Rattle.draft_plan.proofs.PlainLemmas.{arranged_reads}
use Rattle.draft_plan.proofs.laws.arranged_reads.Goals as goal

pub returns : goal.returns
returns c = arranged_reads
