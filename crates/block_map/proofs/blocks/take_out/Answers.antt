use Rattle.std.proofs.Common.{None, Option, Some, ap, refl, subst, sym, ◌∙◌}
use Rattle.std.specs.Prelude.{is_some, length}
use Rattle.std.proofs.lemmas.Option.{none-some}
use Rattle.fugue_ids.specs.Keyed.{IsReplaced}
use Rattle.block_map.specs.Blocks.{IsBlockAt, value_at, value_within}
use Rattle.block_map.specs.declared.block.Block.{Block}
use Rattle.block_map.proofs.ChangeLemmas.{block_after, block_gone, block_replaced, blocks_changed, empty_block, key_step, some_length, that_block, value_replaced}
use Rattle.block_map.proofs.blocks.take_out.Goals as goal
use Rattle.std.proofs.lemmas.List.{nil_from_length}

pub returns-then-is_empty-clause-blocks : goal.returns-then-is_empty-clause-blocks
returns-then-is_empty-clause-blocks g c =
    let key = c.place_of-key.result.0 in
    let m = c.args.blocks.now in
    let d = c.remove.new.self in
    let n = c.remove-then-is_empty.new.self in
    let there = sym c.in-Some.ensures.value in
    let change = block_gone m (c.get_mut.follows.lender d) n key d ((c.get_mut.follows.holds d).3 (ap is_some there)) c.remove-then-is_empty.ensures.updates in
    blocks_changed m n key None change c.requires (λ b e. absurd (none-some b e))

pub returns-then-is_empty-clause-taken : goal.returns-then-is_empty-clause-taken
returns-then-is_empty-clause-taken g c =
    let place = c.place_of-key in
    let key = place.result.0 in
    let m = c.args.blocks.now in
    let d = c.remove.new.self in
    let n = c.remove-then-is_empty.new.self in
    let there = sym c.in-Some.ensures.value in
    let change = block_gone m (c.get_mut.follows.lender d) n key d ((c.get_mut.follows.holds d).3 (ap is_some there)) c.remove-then-is_empty.ensures.updates in
    let none = nil_from_length d.counters.items (c.if-is_empty.ensures.0 refl) in
    value_replaced m n key None change c.args.id place.result.1 place.ensures.key place.ensures.counter None
    (record {
      here = refl;
      others = λ k apart. sym (empty_block d none k) ∙ c.remove.ensures.others k apart ∙ sym (ap (λ (o : Option (Block g.row.V.Denot)). value_within o k) there);
    })

pub returns-else-is_empty-clause-blocks : goal.returns-else-is_empty-clause-blocks
returns-else-is_empty-clause-blocks g c =
    let place = c.place_of-key in
    let key = place.result.0 in
    let m = c.args.blocks.now in
    let was = c.in-Some.block.now in
    let d = c.remove.new.self in
    let mid = c.get_mut.follows.lender d in
    let there = sym c.in-Some.ensures.value in
    let change = block_replaced m mid key (Some d) ((c.get_mut.follows.holds d).3 (ap is_some there)) in
    let own = block_after key d (value_at was) place.result.1 None c.remove.ensures (some_length (length d.counters.items) c.if-is_empty.ensures.1)
    (key_step c.args.id key place.result.1 place.ensures.key place.ensures.counter)
    (c.requires key was there).belongs in
    blocks_changed m mid key (Some d) change c.requires (λ b e. that_block (IsBlockAt key) d b own e)

pub returns-else-is_empty-clause-taken : goal.returns-else-is_empty-clause-taken
returns-else-is_empty-clause-taken g c =
    let place = c.place_of-key in
    let key = place.result.0 in
    let m = c.args.blocks.now in
    let d = c.remove.new.self in
    let mid = c.get_mut.follows.lender d in
    let there = sym c.in-Some.ensures.value in
    let change = block_replaced m mid key (Some d) ((c.get_mut.follows.holds d).3 (ap is_some there)) in
    value_replaced m mid key (Some d) change c.args.id place.result.1 place.ensures.key place.ensures.counter None
    (subst (λ (o : Option (Block g.row.V.Denot)). IsReplaced (value_within o) (value_at d) place.result.1 None) (sym there) c.remove.ensures)
