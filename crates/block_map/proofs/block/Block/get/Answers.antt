use Rattle.std.proofs.Common.{sym}
use Rattle.block_map.proofs.ColumnLemmas.{none_in_gap, value_there}
use Rattle.block_map.proofs.block.Block.get.Goals as goal

pub returns-in-Ok : goal.returns-in-Ok
returns-in-Ok g c =
    let b = c.args.self.now in
    sym (value_there b.counters.items b.values.items b.ascending b.beside c.args.counter c.in-Ok.at c.in-Ok.ensures.found c.index.result.now c.index.ensures)

pub returns-in-Err : goal.returns-in-Err
returns-in-Err g c = let b = c.args.self.now in sym (none_in_gap b.counters.items b.values.items c.args.counter _ c.in-Err.ensures.absent)
