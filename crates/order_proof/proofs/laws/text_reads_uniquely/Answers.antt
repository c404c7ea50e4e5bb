use Rattle.order_proof.proofs.TextLemmas.{reads_uniquely, valid_reads_uniquely}
use Rattle.order_proof.proofs.laws.text_reads_uniquely.Goals as goal

pub returns-clause-any : goal.returns-clause-any
returns-clause-any c = reads_uniquely

pub returns-clause-valid : goal.returns-clause-valid
returns-clause-valid c = valid_reads_uniquely
