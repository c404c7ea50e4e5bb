use Rattle.std.proofs.Common.{length, take, ◌+◌, ◌-◌, ◌≤◌, ◌≡◌}
use Rattle.fugue_ids.specs.declared.limits.TheConstants.{STREAM_LIMIT}
use Rattle.relay_sync.specs.Replies.{HeardBytes, WireRisesFor}
use Rattle.relay_sync.proofs.hearing.next_number.Given as goal

-- the bytes of the number so far
abbrev pub invariant-bytes : goal.invariant-bytes
invariant-bytes g l = record {
  long : length l.number ≡ 4;
  short : l.came ≤ 4;
  hears : HeardBytes (g.W.Wire.seen l.fn.wire) (g.W.Wire.seen l.wire) (take l.came l.number);
  count : l.heard ≡ l.place + 1 + l.came;
  within : l.heard ≤ STREAM_LIMIT;
  reported : WireRisesFor ⊥ (g.W.Wire.seen l.fn.wire) (g.W.Wire.seen l.wire);
}

abbrev pub decreases-bytes : goal.decreases-bytes
decreases-bytes g l = 4 - l.came
