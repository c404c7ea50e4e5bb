use Rattle.std.proofs.Common.{List, [], length, ℕ, ◌+◌, ◌++◌, ◌-◌, ◌≤◌, ◌∷◌, ◌≡◌}
use Rattle.fugue_ids.specs.declared.limits.TheConstants.{STREAM_LIMIT}
use Rattle.origin_model.specs.declared.grammar.Grammar.TheVariants.{Version2}
use Rattle.relay_sync.specs.Replies.{HeardBytes, IsMessageFront, WireRisesFor}
use Rattle.relay_sync.proofs.hearing.next_frame.Given as goal

-- the bytes so far, the last of which was not looked at yet
abbrev pub invariant-bytes : goal.invariant-bytes
invariant-bytes g l = record {
  bytes : List ℕ;
  grammar : l.front.grammar ≡ Version2;
  are : l.front.bytes ++ l.byte ∷ [] ≡ l.first ∷ bytes;
  hears : HeardBytes (g.W.Wire.seen l.fn.wire) (g.W.Wire.seen l.wire) bytes;
  partial : IsMessageFront l.front.bytes;
  count : l.heard ≡ l.place + length (l.first ∷ bytes);
  within : l.heard ≤ STREAM_LIMIT;
  reported : WireRisesFor ⊥ (g.W.Wire.seen l.fn.wire) (g.W.Wire.seen l.wire);
}

abbrev pub decreases-bytes : goal.decreases-bytes
decreases-bytes g l = STREAM_LIMIT - l.heard
