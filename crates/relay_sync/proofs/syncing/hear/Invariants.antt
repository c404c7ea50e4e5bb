use Rattle.std.proofs.Common.{◌-◌, ◌≡◌}
use Rattle.fugue_ids.specs.declared.limits.TheConstants.{STREAM_LIMIT}
use Rattle.origin_model.specs.declared.grammar.Grammar.TheVariants.{Version2}
use Rattle.replica_core.specs.Keeping.{taking_begun}
use Rattle.relay_sync.specs.Replies.{WireRisesFor}
use Rattle.relay_sync.specs.Syncing.{CanHear}
use Rattle.relay_sync.proofs.SyncingLemmas.{Goes}
use Rattle.relay_sync.proofs.syncing.hear.Given as goal

abbrev pub invariant-messages : goal.invariant-messages
invariant-messages g l = record {
  grammar : l.front.grammar ≡ Version2;
  goes : Goes (g.W.Wire.seen l.fn.wire) (g.W.Wire.seen l.wire) (taking_begun l.fn.replica l.fn.kept.items)
      (record { replica = l.replica; counts = l.tally; kept = l.kept.items }) l.heard;
  reported : WireRisesFor ⊥ (g.W.Wire.seen l.fn.wire) (g.W.Wire.seen l.wire);
  ready : CanHear (record { replica = l.replica; counts = l.tally; kept = l.kept.items }) l.heard;
}

abbrev pub decreases-messages : goal.decreases-messages
decreases-messages g l = STREAM_LIMIT - l.heard
