use Rattle.std.proofs.Common.{arith}
use Rattle.relay_sync.proofs.SendingLemmas.{takes_no_fault, takes_gives}
use Rattle.relay_sync.proofs.next_step.next_step.Goals as goal

pub returns-in-Err-clause-err : goal.returns-in-Err-clause-err
returns-in-Err-clause-err g c = (_, takes_gives _ _ c.in-Ok.step _ c.in-Ok.ensures.takes, omega arith, takes_no_fault _ _ _ _ c.in-Ok.ensures.takes)
