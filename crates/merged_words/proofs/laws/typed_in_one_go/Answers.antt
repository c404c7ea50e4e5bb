use Rattle.merged_words.proofs.TypedLemmas.{typed_in_one_go}
use Rattle.merged_words.proofs.laws.typed_in_one_go.Goals as goal

pub returns : goal.returns
returns c = typed_in_one_go
