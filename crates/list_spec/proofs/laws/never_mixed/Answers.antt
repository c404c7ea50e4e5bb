use Rattle.origin_model.proofs.edits.PassageLemmas.{never_mixed}
use Rattle.list_spec.proofs.laws.never_mixed.Goals as goal

pub returns : goal.returns
returns c = never_mixed
