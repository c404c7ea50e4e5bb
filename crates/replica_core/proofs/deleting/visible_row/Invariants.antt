use Rattle.std.specs.Prelude.{◌≤◌, ◌-◌, Contains}
use Rattle.fugue_ids.specs.Identifiers.{Identifier}
use Rattle.run_store.specs.Cells.{cell_ids, cells_shown}
use Rattle.run_store.specs.Hiding.{HaveCells}
use Rattle.replica_core.proofs.deleting.visible_row.Given as goal

abbrev pub invariant-row : goal.invariant-row
invariant-row l = record {
  visible : HaveCells (cells_shown l.list.cells) l.first l.row;
  within : l.row ≤ l.most;
  ahead : (x : Identifier) → Contains l.walk x → Contains (cell_ids (cells_shown l.list.cells)) x;
}

abbrev pub decreases-row : goal.decreases-row
decreases-row l = l.most - l.row
