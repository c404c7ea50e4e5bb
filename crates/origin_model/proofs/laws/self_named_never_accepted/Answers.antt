use Rattle.origin_model.proofs.taking.SelfNamedLemmas.{self_named_never_accepted}
use Rattle.origin_model.proofs.laws.self_named_never_accepted.Goals as goal

pub returns : goal.returns
returns c = self_named_never_accepted
