use Rattle.std.proofs.Common.{refl}
use Rattle.relay_core.proofs.LogLemmas.{cut_back}
use Rattle.relay_core.proofs.piece.take_piece.Goals as goal

pub returns-in-Err-clause-err : goal.returns-in-Err-clause-err
returns-in-Err-clause-err g c =
    (cut_back c.args.log.now.keys c.take.new.log.keys c.truncate.new.self.keys c.len-count.result c.take.ensures.grows c.truncate.ensures.keys c.len-count.ensures.len, refl)
