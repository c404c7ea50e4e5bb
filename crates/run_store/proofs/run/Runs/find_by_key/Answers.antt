use Rattle.std.proofs.Common.{subst}
use Rattle.std.specs.List.{Contains}
use Rattle.run_store.specs.Cells.{cell_ids}
use Rattle.run_store.specs.Runs.{IsCellSpot, RunsView, cells_in}
use Rattle.run_store.proofs.FindLemmas.{counters-up, no-floor, not-there, spot-in}
use Rattle.run_store.proofs.run.Runs.find_by_key.Goals as goal

pub returns-in-None-clause-none : goal.returns-in-None-clause-none
returns-in-None-clause-none c =
    subst (λ (z : RunsView). Contains (cell_ids (cells_in z)) c.args.id → ⊥) c.self.view_is (no-floor _ c.self.invariant c.args.id c.in-None.ensures.floor)

pub returns-in_err-offset-in-Some-clause-none : goal.returns-in_err-offset-in-Some-clause-none
returns-in_err-offset-in-Some-clause-none c =
    let s = c.self.invariant in
    let k = c.in-Some.floor.0 in
    let f = c.in-Some.ensures.floor in
    rw c.from_residual.ensures
    (subst (λ (z : RunsView). Contains (cell_ids (cells_in z)) c.args.id → ⊥) c.self.view_is
    (not-there _ s c.args.id k f c.in-Some.floor.1.now c.in-Some.ensures.value (λ e. c.in_err-offset-in-Some.ensures.none e (counters-up _ s c.args.id k f e))))

pub returns-in_ok-offset-in-Some-clause-some : goal.returns-in_ok-offset-in-Some-clause-some
returns-in_ok-offset-in-Some-clause-some c =
    let run = c.in-Some.floor.1.now in
    let found = c.in_ok-offset-in-Some.ensures in
    subst (λ (z : RunsView). IsCellSpot z.rope c.args.id run c.in_ok-offset-in-Some.offset) c.self.view_is
    (spot-in _ c.self.invariant c.args.id c.in-Some.floor.0 run c.in_ok-offset-in-Some.offset c.in-Some.ensures.value found.same found.behind found.inside)
