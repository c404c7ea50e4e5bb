use Rattle.std.proofs.Common.{ℕ, Some, Option, ap, subst, sym, ◌∙◌}
use Rattle.std.specs.Prelude.{is_some}
use Rattle.std.specs.BTreeMap.{get}
use Rattle.fugue_ids.specs.Identifiers.{Identifier, id_cmp}
use Rattle.block_map.specs.Blocks.{IsBlockAt, block_of, value_at, value_within}
use Rattle.block_map.specs.Renames.{IsRenamed}
use Rattle.block_map.specs.declared.block.Block.{Block}
use Rattle.block_map.proofs.ChangeLemmas.{block_replaced, blocks_changed, key_step, that_block, values_same}
use Rattle.block_map.proofs.RenameLemmas.{block_either, renamed_in_block, same_key}
use Rattle.block_map.proofs.blocks.rename_within.Goals as goal

pub rename-requires : goal.rename-requires
rename-requires g c =
    let key = c.place_of-key.result.0 in
    let m = c.args.blocks.now in
    let to = c.place_of-to_key in
    let there = sym c.in-Some.ensures.value in
    let same = same_key key to.result.0 c.ne.result c.ne.ensures c.if-ne.false in
    sym (ap (λ (o : Option (Block g.row.V.Denot)). value_within o to.result.1) there) ∙ ap (λ (k : Identifier). value_within (get id_cmp m k) to.result.1) (same ∙ to.ensures.key)
    ∙ ap (λ (x : ℕ). value_within (get id_cmp m (block_of c.args.to)) x) to.ensures.counter ∙ c.requires.fresh

pub returns-in-Some-clause-blocks : goal.returns-in-Some-clause-blocks
returns-in-Some-clause-blocks g c =
    let key = c.place_of-key.result.0 in
    let was = c.in-Some.block.now in
    let d = c.rename.new.self in
    let there = sym c.in-Some.ensures.value in
    let to = c.place_of-to_key in
    let same = same_key key to.result.0 c.ne.result c.ne.ensures c.if-ne.false in
    let change = block_replaced c.args.blocks.now (c.get_mut.follows.lender d) key (Some d) ((c.get_mut.follows.holds d).3 (ap is_some there)) in
    let own = block_either key d was (c.requires.blocks key was there) c.rename.ensures.length c.place_of-key.result.1 to.result.1
    (key_step c.args.to key to.result.1 (same ∙ to.ensures.key) to.ensures.counter)
    c.rename.result c.rename.ensures.renamed c.rename.ensures.refused in
    blocks_changed c.args.blocks.now (c.get_mut.follows.lender d) key (Some d) change c.requires.blocks (λ b f. that_block (IsBlockAt key) d b own f)

pub returns-in-Some-clause-renamed : goal.returns-in-Some-clause-renamed
returns-in-Some-clause-renamed g c t =
    let from = c.place_of-key in
    let key = from.result.0 in
    let to = c.place_of-to_key in
    let d = c.rename.new.self in
    let there = sym c.in-Some.ensures.value in
    let same = same_key key to.result.0 c.ne.result c.ne.ensures c.if-ne.false in
    let change = block_replaced c.args.blocks.now (c.get_mut.follows.lender d) key (Some d) ((c.get_mut.follows.holds d).3 (ap is_some there)) in
    renamed_in_block c.args.blocks.now (c.get_mut.follows.lender d) key (Some d) change c.args.from c.args.to (sym from.ensures.key)
    (sym (same ∙ to.ensures.key)) from.result.1 to.result.1 from.ensures.counter to.ensures.counter
    (subst (λ (o : Option (Block g.row.V.Denot)). IsRenamed (value_within o) (value_at d) from.result.1 to.result.1) (sym there) (c.rename.ensures.renamed t))

pub returns-in-Some-clause-refused : goal.returns-in-Some-clause-refused
returns-in-Some-clause-refused g c f =
    let key = c.place_of-key.result.0 in
    let d = c.rename.new.self in
    let there = sym c.in-Some.ensures.value in
    let change = block_replaced c.args.blocks.now (c.get_mut.follows.lender d) key (Some d) ((c.get_mut.follows.holds d).3 (ap is_some there)) in
    values_same c.args.blocks.now (c.get_mut.follows.lender d) key (Some d) change
    (λ e. c.rename.ensures.refused f e ∙ sym (ap (λ (o : Option (Block g.row.V.Denot)). value_within o e) there))
