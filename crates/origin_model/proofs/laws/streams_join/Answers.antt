use Rattle.origin_model.proofs.frames.JoinLemmas.{streams_join}
use Rattle.origin_model.proofs.laws.streams_join.Goals as goal

pub returns : goal.returns
returns c = streams_join
