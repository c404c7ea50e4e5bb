use Rattle.std.proofs.Common.{subst, ◌≡◌}
use Rattle.std.specs.Prelude.{None, slice_get}
use Rattle.run_store.specs.Cells.{cell_ids, cells_shown}
use Rattle.run_store.specs.Runs.{RunsView, cells_in}
use Rattle.run_store.specs.Shown.{IsInHand}
use Rattle.run_store.proofs.VisibleLemmas.{no-unit, unit-hand}
use Rattle.run_store.proofs.run.Runs.visible_spot.Goals as goal

pub returns-in-None-clause-none : goal.returns-in-None-clause-none
returns-in-None-clause-none c =
    subst (λ (z : RunsView). slice_get (cell_ids (cells_shown (cells_in z))) c.args.i ≡ None) c.self.view_is (no-unit _ c.self.invariant c.args.i c.in-None.ensures.none)

pub returns-in-Some-clause-some : goal.returns-in-Some-clause-some
returns-in-Some-clause-some c =
    let run = c.in-Some.unit.1.now in
    let offset = c.in-Some.unit.2 in
    subst (λ (z : RunsView). IsInHand (cell_ids (cells_shown (cells_in z))) c.args.i run offset) c.self.view_is
    (unit-hand _ c.self.invariant c.args.i c.in-Some.unit.0 offset c.in-Some.ensures.some run c.in-Some.ensures.value)
