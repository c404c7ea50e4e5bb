use Rattle.std.proofs.Common.{◌-◌, ◌≤◌, length, take}
use Rattle.std.specs.Prelude.{Ok}
use Rattle.fugue_ids.specs.declared.out.Failed.{Failed}
use Rattle.relay_sync.specs.Sending.{SendsText}
use Rattle.relay_sync.proofs.serving.send_whole.Given as goal

abbrev pub invariant-loop-at : goal.invariant-loop-at
invariant-loop-at g l = record {
  inside : l.at ≤ length l.piece;
  sent : SendsText {E = Failed} {T = Unit {0}} (g.D.Dock.seen l.fn.dock) (g.D.Dock.seen l.dock) (Ok tt) l.session (take l.at l.piece);
}

abbrev pub decreases-loop-at : goal.decreases-loop-at
decreases-loop-at g l = length l.piece - l.at
