use Rattle.batch_moments.proofs.LawLemmas.{tell_all}
use Rattle.batch_moments.proofs.laws.moments_tell_all.Goals as goal

pub returns : goal.returns
returns c = tell_all
