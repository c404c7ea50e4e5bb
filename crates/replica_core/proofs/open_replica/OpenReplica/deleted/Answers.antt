use Rattle.std.proofs.Common.{ap, subst, true, ◌≡◌}
use Rattle.std.specs.Prelude.{All}
use Rattle.op_runs.specs.Deletions.{deletes_up}
use Rattle.origin_model.specs.operations.History.{has_op}
use Rattle.replica_core.specs.Replica.{OpenState}
use Rattle.replica_core.proofs.DeletesFeedingLemmas.{hidden_deleted}
use Rattle.replica_core.proofs.open_replica.OpenReplica.deleted.Goals as goal

pub returns-clause-there : goal.returns-clause-there
returns-clause-there c =
    let n = c.hidden_row.result in
    let x = c.args.first in
    let sound = c.in-Some.ensures.some in
    subst (λ h. All (λ op. has_op h op ≡ true) (deletes_up x n)) (ap (λ (r : OpenState). r.state.held.history) c.self.view_is)
    (hidden_deleted n c.self.inside.accepted sound.place c.in-Some.list.now x c.self.invariant.sound.lawful sound.listed c.hidden_row.ensures.hidden)
