use Rattle.kept_promises.proofs.KeepingLemmas as keeping
use Rattle.kept_promises.proofs.laws.files_keep_operations.Goals as goal

pub returns : goal.returns
returns c = keeping.files_keep_operations
