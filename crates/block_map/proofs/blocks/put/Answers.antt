use Rattle.std.proofs.Common.{Some, Option, ap, subst, sym, ◌∙◌}
use Rattle.std.specs.Prelude.{is_some}
use Rattle.std.proofs.lemmas.Result.{on_err_weaker, on_ok_weaker}
use Rattle.fugue_ids.specs.Keyed.{IsReplaced}
use Rattle.block_map.specs.Blocks.{IsBlockAt, value_at, value_within}
use Rattle.block_map.specs.declared.block.Block.{Block}
use Rattle.block_map.proofs.ChangeLemmas.{block_after, block_kept, block_replaced, blocks_changed, either, key_step, on_err_both, on_ok_both, that_block, value_replaced}
use Rattle.block_map.proofs.ChangeLemmas.{values_same}
use Rattle.block_map.proofs.blocks.put.Goals as goal

pub returns-in-Some-clause-blocks : goal.returns-in-Some-clause-blocks
returns-in-Some-clause-blocks g c =
    let place = c.place_of-key in
    let key = place.result.0 in
    let was = c.in-Some.block.now in
    let d = c.insert.new.self in
    let there = sym c.in-Some.ensures.value in
    let own = c.requires key was there in
    let e = c.insert.ensures in
    let change = block_replaced c.args.blocks.now (c.get_mut.follows.lender d) key (Some d) ((c.get_mut.follows.holds d).3 (ap is_some there)) in
    let done = on_ok_both c.insert.result e.ok e.some
    (λ p s. block_after key d (value_at was) place.result.1 (Some c.args.value) p s
    (key_step c.args.id key place.result.1 place.ensures.key place.ensures.counter) own.belongs) in
    let kept = on_err_both c.insert.result e.err e.length (λ p s. block_kept key d was own p s) in
    blocks_changed c.args.blocks.now (c.get_mut.follows.lender d) key (Some d) change c.requires
    (λ b f. that_block (IsBlockAt key) d b (either c.insert.result done kept (λ x. x) (λ x. x)) f)

pub returns-in-Some-clause-ok : goal.returns-in-Some-clause-ok
returns-in-Some-clause-ok g c =
    let place = c.place_of-key in
    let key = place.result.0 in
    let d = c.insert.new.self in
    let there = sym c.in-Some.ensures.value in
    let change = block_replaced c.args.blocks.now (c.get_mut.follows.lender d) key (Some d) ((c.get_mut.follows.holds d).3 (ap is_some there)) in
    on_ok_weaker c.insert.result
    (λ p.
    value_replaced c.args.blocks.now (c.get_mut.follows.lender d) key (Some d) change c.args.id place.result.1 place.ensures.key place.ensures.counter (Some c.args.value)
    (subst (λ (o : Option (Block g.row.V.Denot)). IsReplaced (value_within o) (value_at d) place.result.1 (Some c.args.value)) (sym there) p))
    c.insert.ensures.ok

pub returns-in-Some-clause-err : goal.returns-in-Some-clause-err
returns-in-Some-clause-err g c =
    let key = c.place_of-key.result.0 in
    let d = c.insert.new.self in
    let there = sym c.in-Some.ensures.value in
    let change = block_replaced c.args.blocks.now (c.get_mut.follows.lender d) key (Some d) ((c.get_mut.follows.holds d).3 (ap is_some there)) in
    on_err_weaker c.insert.result
    (λ p.
    values_same c.args.blocks.now (c.get_mut.follows.lender d) key (Some d) change (λ e. p e ∙ sym (ap (λ (o : Option (Block g.row.V.Denot)). value_within o e) there)))
    c.insert.ensures.err
