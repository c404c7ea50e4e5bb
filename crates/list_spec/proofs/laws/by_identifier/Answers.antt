use Rattle.origin_model.proofs.edits.PassageLemmas.{by_identifier}
use Rattle.list_spec.proofs.laws.by_identifier.Goals as goal

pub returns : goal.returns
returns c = by_identifier
