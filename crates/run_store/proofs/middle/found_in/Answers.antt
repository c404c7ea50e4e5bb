use Rattle.std.proofs.Common.{ap}
use Rattle.run_store.specs.Standings.{found_at}
use Rattle.run_store.proofs.middle.found_in.Goals as goal

pub returns : goal.returns
returns c = ap (found_at c.args.place c.args.offset) c.cell_at-cell.ensures
