use Rattle.std.proofs.Common.{subst}
use Rattle.std.specs.Prelude.{All}
use Rattle.origin_model.specs.operations.Verdict.{verdict}
use Rattle.origin_model.specs.edits.State.{State, IsOpen}
use Rattle.replica_core.proofs.StandingLemmas.{waiting_open}
use Rattle.replica_core.proofs.replica.Replica.waiting.Goals as goal

pub returns-clause-not_accepted : goal.returns-clause-not_accepted
returns-clause-not_accepted c =
    let WaitOpen : State → Type 0 = λ s. All (λ op. IsOpen (verdict s.held.history op)) s.held.waiting in
    subst WaitOpen c.self.view_is (waiting_open c.self.inside.inner.state c.self.invariant.sound)
