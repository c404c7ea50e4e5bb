use Rattle.std.proofs.Common.{ap, length, sym, ◌∙◌}
use Rattle.run_store.specs.Cells.{cells_shown}
use Rattle.run_store.specs.Runs.{RunsView, cells_in}
use Rattle.run_store.proofs.VisibleLemmas.{visible-all}
use Rattle.run_store.proofs.run.Runs.visible_count.Goals as goal

pub returns : goal.returns
returns c = c.total.ensures ∙ sym (visible-all _ c.self.invariant) ∙ ap (λ (z : RunsView). length (cells_shown (cells_in z))) c.self.view_is
