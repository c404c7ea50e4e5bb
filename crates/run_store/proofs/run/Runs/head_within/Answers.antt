use Rattle.std.proofs.Common.{ap, arith, subst}
use Rattle.run_store.specs.Runs.{RunsView}
use Rattle.run_store.specs.Standings.{IsFoundCell, IsInRun}
use Rattle.run_store.specs.declared.standing.Found.{Found}
use Rattle.run_store.proofs.FoundLemmas.{found-in}
use Rattle.run_store.proofs.PlaceLemmas.{run-at, run-named}
use Rattle.run_store.proofs.StandingLemmas.{in-run}
use Rattle.run_store.proofs.run.Runs.head_within.Goals as goal

pub returns-clause-some : goal.returns-clause-some
returns-clause-some c =
    let s = c.self.invariant in
    let place = c.in_ok-place.place in
    let run = c.in_ok-place.run'.now in
    let at = run-named _ s place run c.in_ok-place.ensures.value in
    let place-is = ap (λ (f : Found). f.at.place) c.found_in.ensures in
    subst (λ (z : RunsView). IsInRun z.rope c.found_in.result.at.place 0 1 c.found_in.result.id) c.self.view_is
    (rw place-is (in-run _ s run place 0 0 1 c.found_in.result.id (ap (λ (f : Found). f.id) c.found_in.ensures) at (omega arith) (omega arith)
    (run-at _ s place run.id run at).some))

pub returns-clause-found : goal.returns-clause-found
returns-clause-found c =
    let s = c.self.invariant in
    let place = c.in_ok-place.place in
    let run = c.in_ok-place.run'.now in
    let at = run-named _ s place run c.in_ok-place.ensures.value in
    subst (λ (z : RunsView). IsFoundCell z.rope c.found_in.result) c.self.view_is
    (found-in _ s run place 0 c.found_in.result c.found_in.ensures at (run-at _ s place run.id run at).some)
