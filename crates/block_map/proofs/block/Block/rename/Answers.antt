use Rattle.block_map.specs.Blocks.{value_at}
use Rattle.block_map.proofs.RenameLemmas.{differ, renamed_by, value_renamed}
use Rattle.block_map.proofs.block.Block.rename.Goals as goal

pub returns-clause-renamed : goal.returns-clause-renamed
returns-clause-renamed g c _ =
    let b = c.args.self.now in
    let at = c.in-Ok.ensures.found in
    renamed_by (value_at b) _ c.args.from c.args.to (differ b.counters.items b.values.items b.beside c.args.from c.in-Ok.at at c.args.to c.requires)
    (value_renamed b.counters.items b.values.items b.ascending b.beside c.args.from c.in-Ok.at at c.args.to (c.fits.ensures c.if-not-fits.false).before)
