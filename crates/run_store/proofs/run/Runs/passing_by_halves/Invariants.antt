use Rattle.std.proofs.Common.{length}
use Rattle.fugue_ids.specs.Keys.{between}
use Rattle.run_store.specs.Cells.{keyed_cells}
use Rattle.run_store.specs.Runs.{cells_in}
use Rattle.run_store.proofs.PassingLemmas.{IsHalved}
use Rattle.run_store.proofs.run.Runs.passing_by_halves.Given as goal

abbrev pub invariant-halve : goal.invariant-halve
invariant-halve g l = IsHalved l.self (goal.P-post g l.test) l.fn.rest l.rest l.passing

abbrev pub decreases-halve : goal.decreases-halve
decreases-halve g l = length (between l.rest.from l.rest.to (keyed_cells (cells_in l.self)))
