use Rattle.std.proofs.Common.{◌≡◌, ◌-◌, ◌<◌, get_or, length, sym, arith, ◌∙◌}
use Rattle.std.proofs.lemmas.List.{get_or_default}
use Rattle.block_map.proofs.ColumnLemmas.{value_there}
use Rattle.block_map.proofs.block.Block.before.Goals as goal

pub returns-clause-some : goal.returns-clause-some
returns-clause-some g c =
    let b = c.args.self.now in
    let inside : c.args.place - 1 < length c.args.self.now.counters.items = omega (arith, c.requires, c.if-place-eq0.false) in
    let here : get_or c.args.self.now.counters.items (c.args.place - 1) 0 ≡ c.index.result.now = get_or_default _ _ 0 c.index.result.now inside ∙ sym c.index.ensures in (
      omega (arith, c.if-place-eq0.false),
      here,
      value_there b.counters.items b.values.items b.ascending b.beside c.index.result.now (c.args.place - 1)
          (record { inside = inside; here = here }) c.index-2.result.now c.index-2.ensures,
    )
