use Rattle.std.proofs.Common.{◌-◌, ◌≤◌, length, take}
use Rattle.std.specs.Prelude.{Ok}
use Rattle.fugue_ids.specs.Outs.{WritesBytes}
use Rattle.fugue_ids.specs.declared.out.Failed.{Failed}
use Rattle.fugue_ids.proofs.out.write_whole.Given as goal

abbrev pub invariant-loop-at : goal.invariant-loop-at
invariant-loop-at g l = record {
  inside : l.at ≤ length l.piece;
  wrote : WritesBytes {E = Failed} {T = Unit {0}} (g.O.Out.seen l.initial.out) (g.O.Out.seen l.out) (Ok tt) (take l.at l.piece);
}

abbrev pub decreases-loop-at : goal.decreases-loop-at
decreases-loop-at g l = length l.initial.piece - l.at
