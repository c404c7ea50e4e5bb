use Rattle.std.proofs.Common.{◌≡◌, length, drop}
use Rattle.causal_inbox.specs.Naming.{naming}
use Rattle.origin_model.specs.taking.Taking.{decided_on}
use Rattle.replica_core.specs.Due.{due_marks}
use Rattle.replica_core.proofs.WakeLemmas.{all_tried}
use Rattle.replica_core.proofs.waking.wake.Given as goal

-- trying those from the k-th on makes all marks right
abbrev pub invariant-loop-k : goal.invariant-loop-k
invariant-loop-k l = record {
  right : all_tried (decided_on l.accepted) l.inbox.ops (drop l.k (naming l.id l.inbox.ops)) l.due ≡ due_marks l.accepted l.inbox.ops;
  same_length : length l.due ≡ length l.inbox.ops;
}
