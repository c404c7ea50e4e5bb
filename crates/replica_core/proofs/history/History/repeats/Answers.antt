use Rattle.std.proofs.Common.{◌≡◌, ◌≤◌, length, subst, sym, take, true}
use Rattle.std.specs.Prelude.{All, reverse}
use Rattle.fugue_ids.specs.Runs.{run_from}
use Rattle.origin_model.specs.operations.History.{has_op}
use Rattle.replica_core.proofs.NotingLemmas.{repeated_there, repeated_within}
use Rattle.replica_core.proofs.history.History.repeats.Goals as goal

pub returns-in-Some-clause-within : goal.returns-in-Some-clause-within
returns-in-Some-clause-within c =
    subst (λ n. n ≤ length c.args.text.now) (sym c.repeats.ensures) (repeated_within c.self.inside.ops c.in-Some.position c.args.start.now c.args.text.now)

pub returns-in-Some-clause-there : goal.returns-in-Some-clause-there
returns-in-Some-clause-there c =
    let start = c.args.start.now in
    let text = c.args.text.now in
    subst (λ h. All (λ o. has_op h o ≡ true) (run_from start (take c.repeats.result text))) c.self.view_is
    (subst (λ n. All (λ o. has_op (reverse c.self.inside.ops) o ≡ true) (run_from start (take n text))) (sym c.repeats.ensures)
    (repeated_there c.self.inside.ops c.in-Some.position start text))
