use Rattle.std.proofs.Common.{◌-◌, ◌≡◌, ◌≤◌}
use Rattle.op_runs.specs.Deletions.{deletes_by}
use Rattle.origin_model.specs.edits.Effect.{with_ops}
use Rattle.origin_model.specs.edits.State.{IsSound}
use Rattle.version_views.proofs.accepting.accept_deletes.Given as goal

-- so many were accepted
abbrev pub invariant-deletes : goal.invariant-deletes
invariant-deletes l = record {
  within : l.done ≤ l.count;
  accepted : l.front ≡ with_ops l.initial.front (deletes_by l.deletes.down l.deletes.target l.done);
  sound : IsSound l.front;
}

abbrev pub decreases-deletes : goal.decreases-deletes
decreases-deletes l = l.count - l.done
