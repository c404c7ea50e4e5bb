use Rattle.std.specs.Prelude.{◌≤◌, ◌-◌}
use Rattle.run_store.specs.Hiding.{AreHidden}
use Rattle.replica_core.proofs.deleting.hidden_row.Given as goal

abbrev pub invariant-row : goal.invariant-row
invariant-row l = AreHidden l.list.cells l.first l.row × (l.row ≤ l.most)

abbrev pub decreases-row : goal.decreases-row
decreases-row l = l.most - l.row
