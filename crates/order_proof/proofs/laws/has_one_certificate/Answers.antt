use Rattle.order_proof.proofs.OnceLemmas.{has_one_certificate}
use Rattle.order_proof.proofs.laws.has_one_certificate.Goals as goal

pub returns : goal.returns
returns c = has_one_certificate
