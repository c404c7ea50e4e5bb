use Rattle.merged_words.proofs.LawLemmas.{drafts_merge}
use Rattle.merged_words.proofs.laws.drafts_merge.Goals as goal

pub returns : goal.returns
returns c = drafts_merge
