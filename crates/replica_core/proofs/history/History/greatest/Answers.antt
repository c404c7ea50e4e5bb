use Rattle.std.proofs.Common.{subst}
use Rattle.origin_model.specs.operations.Counters.{counters, IsGreatest}
use Rattle.replica_core.proofs.GreatestLemmas.{greatest_held}
use Rattle.replica_core.proofs.history.History.greatest.Goals as goal

pub returns : goal.returns
returns c =
    subst (λ h. IsGreatest (counters c.args.replica h) c.greatest.result) c.self.view_is
    (greatest_held c.args.replica c.self.inside.index.positions.values _ c.greatest.result c.self.invariant.indexed c.self.invariant.lawful c.greatest.ensures)
