use Rattle.origin_model.proofs.edits.PassageLemmas.{together}
use Rattle.list_spec.proofs.laws.together.Goals as goal

pub returns : goal.returns
returns c = together
