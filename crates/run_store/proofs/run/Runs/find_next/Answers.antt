use Rattle.std.proofs.Common.{subst}
use Rattle.run_store.specs.Runs.{IsCellSpot, RunsView}
use Rattle.run_store.proofs.FindLemmas.{spot-in}
use Rattle.run_store.proofs.run.Runs.find_next.Goals as goal

pub returns-in_ok-offset-in-Some : goal.returns-in_ok-offset-in-Some
returns-in_ok-offset-in-Some c =
    let run = c.in-Some.next.1.now in
    let found = c.in_ok-offset-in-Some.ensures in
    subst (λ (z : RunsView). IsCellSpot z.rope c.args.id run c.in_ok-offset-in-Some.offset) c.self.view_is
    (spot-in _ c.self.invariant c.args.id c.in-Some.next.0 run c.in_ok-offset-in-Some.offset c.in-Some.ensures.value found.same found.behind found.inside)
