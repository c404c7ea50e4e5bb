use Rattle.std.proofs.Common.{ap, sym, ◌∙◌}
use Rattle.std.specs.Prelude.{None}
use Rattle.fugue_ids.specs.Keys.{first_id, rest_of}
use Rattle.run_store.specs.Cells.{keyed_cells}
use Rattle.run_store.specs.Runs.{RunsView, cells_in}
use Rattle.run_store.proofs.PlaceLemmas.{first-cells}
use Rattle.run_store.proofs.run.Runs.behind.Goals as goal

pub returns-in-None : goal.returns-in-None
returns-in-None c =
    let r = c.self.inside in
    c.first.ensures ∙ sym (first-cells r.letters r.count r.rope c.self.invariant.each) ∙ ap (λ (z : RunsView). first_id (rest_of None (keyed_cells (cells_in z)))) c.self.view_is
    ∙ ap (λ o. first_id (rest_of o (keyed_cells (cells_in c.args.self.now)))) (sym c.in-None.is)
