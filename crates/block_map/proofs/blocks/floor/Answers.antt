use Rattle.block_map.specs.Blocks.{IsInBlockBefore, block_value}
use Rattle.block_map.proofs.FloorLemmas.{floor_before, floor_within, held_by}
use Rattle.block_map.proofs.blocks.floor.Goals as goal

pub returns-in-Some-clause-floor : goal.returns-in-Some-clause-floor
returns-in-Some-clause-floor g c = floor_within (block_value c.args.blocks.now) c.args.id c.in-Some.found c.in-Some.ensures.some

pub returns-in-None-clause-floor : goal.returns-in-None-clause-floor
returns-in-None-clause-floor g c =
    let last = c.last_before in
    floor_before (block_value c.args.blocks.now) c.args.id c.place_of.result.0 c.place_of.ensures.key c.in-None.ensures.none last.result last.ensures.none last.ensures.some

pub returns-in-None-clause-value : goal.returns-in-None-clause-value
returns-in-None-clause-value g c =
    let last = c.last_before in
    held_by (block_value c.args.blocks.now) c.args.id (IsInBlockBefore c.place_of.result.0) last.result last.ensures.some
