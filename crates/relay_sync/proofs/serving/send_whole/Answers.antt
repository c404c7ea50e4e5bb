use Rattle.std.proofs.Common.{arith}
use Rattle.relay_sync.proofs.SendingLemmas.{sends_grow}
use Rattle.relay_sync.proofs.serving.send_whole.Goals as goal

pub loop-at-preserved : goal.loop-at-preserved
loop-at-preserved g c = record {
  inside = omega (arith, c.in_ok-at.ensures.writes.bound);
  sent = sends_grow tt _ _ _ _ _ _ _ c.loop-at.invariant.sent c.in_ok-at.ensures;
}
