use Rattle.relay_sync.proofs.CountLemmas.{wire_on, wire_went, write_rises}
use Rattle.std.proofs.Common.{arith}
use Rattle.relay_sync.proofs.SayingLemmas.{says_grow}
use Rattle.relay_sync.proofs.saying.say_whole.Goals as goal

pub loop-at-preserved : goal.loop-at-preserved
loop-at-preserved g c = record {
  inside = omega (arith, c.in_ok-at.ensures.writes.bound);
  said = says_grow tt _ _ _ _ _ _ c.loop-at.invariant.said c.in_ok-at.ensures;
  reported = wire_on ⊥ _ _ _ c.loop-at.invariant.reported (wire_went _ _ (write_rises _ _ _ _ c.in_ok-at.ensures));
}
