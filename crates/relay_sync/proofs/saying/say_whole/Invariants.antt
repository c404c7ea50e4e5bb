use Rattle.std.proofs.Common.{◌-◌, ◌≤◌, length, take}
use Rattle.std.specs.Prelude.{Ok}
use Rattle.fugue_ids.specs.declared.out.Failed.{Failed}
use Rattle.relay_sync.specs.Replies.{WireRisesFor}
use Rattle.relay_sync.specs.Saying.{SaysText}
use Rattle.relay_sync.proofs.saying.say_whole.Given as goal

abbrev pub invariant-loop-at : goal.invariant-loop-at
invariant-loop-at g l = record {
  inside : l.at ≤ length l.piece;
  said : SaysText {E = Failed} {T = Unit {0}} (g.W.Wire.seen l.fn.wire) (g.W.Wire.seen l.wire) (Ok tt) (take l.at l.piece);
  reported : WireRisesFor ⊥ (g.W.Wire.seen l.fn.wire) (g.W.Wire.seen l.wire);
}

abbrev pub decreases-loop-at : goal.decreases-loop-at
decreases-loop-at g l = length l.piece - l.at
