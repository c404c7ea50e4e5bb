use Rattle.replica_file.proofs.MomentLemmas.{one_list}
use Rattle.replica_file.proofs.load_file.moments_once.Goals as goal

pub returns : goal.returns
returns c = one_list
