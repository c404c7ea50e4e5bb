use Rattle.origin_model.proofs.edits.PassageLemmas.{before_right}
use Rattle.list_spec.proofs.laws.before_right.Goals as goal

pub returns : goal.returns
returns c = before_right
