use Rattle.std.proofs.Common.{length}
use Rattle.std.specs.BTreeMap.{get}
use Rattle.fugue_ids.specs.Identifiers.{id_cmp}
use Rattle.run_store.specs.Cells.{cell_ids, cells_shown}
use Rattle.catalogue_notes.specs.Placing.{position_in}
use Rattle.catalogue_notes.proofs.PlacingLemmas.{IsPlacingSome}
use Rattle.catalogue_notes.proofs.arrangement.placing_of.Given as goal

abbrev pub invariant-sections : goal.invariant-sections
invariant-sections l = IsPlacingSome (position_in (get id_cmp l.winners)) (cell_ids (cells_shown l.catalogue.cells)) l.shown (get id_cmp l.placing)

abbrev pub decreases-sections : goal.decreases-sections
decreases-sections l = length l.shown
