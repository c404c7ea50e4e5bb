use Rattle.std.proofs.Common.{sym}
use Rattle.block_map.proofs.FloorLemmas.{within_some}
use Rattle.block_map.proofs.blocks.floor_within.Goals as goal

pub returns-in-Some-clause-some : goal.returns-in-Some-clause-some
returns-in-Some-clause-some g c =
    let place = c.place_of-key in
    (within_some c.args.blocks.now c.requires c.args.id place.result.0 place.result.1 place.ensures.key place.ensures.counter c.in-Some.block.now
    (sym c.in-Some.ensures.value) c.floor.result
    c.floor.ensures.none c.floor.ensures.some c.named.result c.named.ensures).1
