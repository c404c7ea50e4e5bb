use Rattle.std.proofs.Common.{List, length, ◌+◌, ◌++◌, ◌≡◌}
use Rattle.fugue_ids.specs.declared.op.Op.{Op}
use Rattle.origin_model.specs.taking.Taking.{IsSettled}
use Rattle.replica_core.specs.Keeping.{TakesIn}
use Rattle.relay_sync.specs.Replies.{IsMessage, Operations}
use Rattle.relay_sync.specs.Syncing.{count_so_far}
use Rattle.relay_sync.proofs.syncing.take_frame.Given as goal

-- those that were given are taken in
abbrev pub invariant-ops : goal.invariant-ops
invariant-ops l = record {
  given : List Op;
  is_message : IsMessage (Operations (given ++ l.ops)) l.frame;
  takes : TakesIn (record { replica = l.fn.replica; counts = l.fn.tally; kept = l.fn.kept.items })
      (record { replica = l.replica; counts = l.tally; kept = l.kept.items }) given;
  settled : IsSettled l.replica.held;
  count : count_so_far (record { replica = l.replica; counts = l.tally; kept = l.kept.items })
      ≡ count_so_far (record { replica = l.fn.replica; counts = l.fn.tally; kept = l.fn.kept.items }) + length given;
}

abbrev pub decreases-ops : goal.decreases-ops
decreases-ops l = length l.ops
