use Rattle.std.proofs.Common.{Some, ap, sym, ◌∙◌}
use Rattle.std.specs.BTreeMap.{get}
use Rattle.fugue_ids.specs.Identifiers.{id_cmp}
use Rattle.block_map.specs.Blocks.{IsBlockAt, value_at, value_within}
use Rattle.block_map.specs.declared.block.Block.{Block}
use Rattle.std.proofs.Common.{Option}
use Rattle.block_map.proofs.ChangeLemmas.{block_after, block_replaced, blocks_changed, empty_block, key_step, no_value, that_block, value_replaced}
use Rattle.block_map.proofs.blocks.begin.Goals as goal

pub returns-clause-blocks : goal.returns-clause-blocks
returns-clause-blocks g c =
    let key = c.place_of-key.result.0 in
    let at = c.place_of-key.ensures.key in
    let d = c.insert.new.self in
    let fresh = c.new-block.result in
    let change = block_replaced c.args.blocks.now c.insert-2.new.self key (Some d) c.in_ok-insert-2.ensures.updates in
    let own = block_after key d (value_at fresh) c.place_of-key.result.1 (Some c.args.value) c.in_ok-insert.ensures.ok c.in_ok-insert.ensures.some
    (key_step c.args.id key c.place_of-key.result.1 at c.place_of-key.ensures.counter) (λ e h. absurd (no_value (value_at fresh e) (empty_block fresh c.new-block.ensures e) h)) in
    blocks_changed c.args.blocks.now c.insert-2.new.self key (Some d) change c.requires.blocks (λ b e. that_block (IsBlockAt key) d b own e)

pub returns-clause-ok : goal.returns-clause-ok
returns-clause-ok g c =
    let key = c.place_of-key.result.0 in
    let at = c.place_of-key.ensures.key in
    let d = c.insert.new.self in
    let fresh = c.new-block.result in
    let done = c.in_ok-insert.ensures.ok in
    let change = block_replaced c.args.blocks.now c.insert-2.new.self key (Some d) c.in_ok-insert-2.ensures.updates in
    let none = ap (λ k. get id_cmp c.args.blocks.now k) at ∙ c.requires.none in
    value_replaced c.args.blocks.now c.insert-2.new.self key (Some d) change c.args.id c.place_of-key.result.1 at c.place_of-key.ensures.counter (Some c.args.value)
    (record {
      here = done.here;
      others = λ k apart. done.others k apart ∙ empty_block fresh c.new-block.ensures k ∙ sym (ap (λ (o : Option (Block g.row.V.Denot)). value_within o k) none);
    })
