use Rattle.std.proofs.Common.{subst}
use Rattle.std.specs.List.{All}
use Rattle.fugue_ids.specs.Keys.{IsFit}
use Rattle.run_store.specs.Cells.{keyed_cells}
use Rattle.run_store.specs.Stored.{Stored}
use Rattle.run_store.proofs.KeyLemmas.{all-fit}
use Rattle.run_store.proofs.store.RunStoreOrderOf.last_passing.Goals as goal

pub returns-clause-fit : goal.returns-clause-fit
returns-clause-fit g c = subst (λ (s : Stored). All IsFit (keyed_cells s.cells)) c.self.view_is (all-fit c.self.inside.runs c.sound.ensures)
