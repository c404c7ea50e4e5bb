use Rattle.order_proof.proofs.BeforeLemmas.{valid_means_before}
use Rattle.order_proof.proofs.laws.valid_means_before.Goals as goal

pub returns : goal.returns
returns c = valid_means_before
