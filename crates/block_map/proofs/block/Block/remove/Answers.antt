use Rattle.std.proofs.Common.{None, ◌<◌, ap, length, subst, sym, arith, ◌∙◌}
use Rattle.std.proofs.lemmas.List.Edits.{length-remove}
use Rattle.block_map.specs.Blocks.{value_at}
use Rattle.block_map.specs.Columns.{IsAscending, value_beside}
use Rattle.block_map.proofs.ChangeLemmas.{replaced_none}
use Rattle.block_map.proofs.ColumnLemmas.{ascending_remove, none_in_gap, replaced_by, value_remove}
use Rattle.block_map.proofs.block.Block.remove.Goals as goal

pub invariant_of-self : goal.invariant_of-self
invariant_of-self g c =
    let b = c.args.self.now in
    let inside : c.in-Ok.at < length c.args.self.now.counters.items = c.in-Ok.ensures.found.inside in
    let fewer = ap length c.remove.ensures.items in
    let beside = ap length c.remove-in-Ok.ensures.items in
    record {
      beside = omega (arith, fewer, beside, length-remove b.counters.items c.in-Ok.at inside, length-remove b.values.items c.in-Ok.at (omega (arith, inside, b.beside)), b.beside);
      ascending = subst IsAscending (sym c.remove.ensures.items) (ascending_remove b.counters.items b.ascending c.in-Ok.at c.in-Ok.ensures.found.inside);
    }

pub returns-in-Ok : goal.returns-in-Ok
returns-in-Ok g c =
    let b = c.args.self.now in
    replaced_by (value_at b) _ c.args.counter None
    (λ q.
    (λ i. value_beside (c.remove.ensures.items i) (c.remove-in-Ok.ensures.items i) q)
    ∙ value_remove b.counters.items b.values.items b.ascending b.beside c.args.counter c.in-Ok.at c.in-Ok.ensures.found q)

pub returns-in_default : goal.returns-in_default
returns-in_default g c =
    let b = c.args.self.now in
    replaced_none (value_at b) c.args.counter None (none_in_gap b.counters.items b.values.items c.args.counter _ c.in_default.ensures.absent)
