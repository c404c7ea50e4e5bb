use Rattle.std.proofs.Common.{sym, subst, ◌++◌}
use Rattle.std.specs.Prelude.{Some}
use Rattle.origin_model.specs.operations.Counters.{IsGreatest}
use Rattle.replica_core.proofs.GreatestLemmas.{greatest_both}
use Rattle.replica_core.proofs.replica.greater.Goals as goal

pub returns-in-Some-Some : goal.returns-in-Some-Some
returns-in-Some-Some c some others first second =
    subst (λ n. IsGreatest (some ++ others) (Some n)) (sym c.max.ensures)
    (greatest_both some others c.in-Some-Some.first c.in-Some-Some.second (subst (IsGreatest some) c.in-Some-Some.is-0 first)
    (subst (IsGreatest others) c.in-Some-Some.is-1 second))
