use Rattle.std.proofs.Common.{◌-◌, ◌≤◌, arith}
use Rattle.std.proofs.lemmas.Option.{IfSome_then}
use Rattle.block_map.specs.Blocks.{value_at}
use Rattle.block_map.proofs.ColumnLemmas.{value_there}
use Rattle.block_map.proofs.CounterLemmas.{before_gap, greatest_before, greatest_itself, none_before, none_then}
use Rattle.block_map.proofs.block.Block.floor.Goals as goal

pub returns-in-Ok-clause-some : goal.returns-in-Ok-clause-some
returns-in-Ok-clause-some g c =
    let b = c.args.self.now in
    greatest_itself (value_at b) c.args.counter c.index.result.now
    (value_there b.counters.items b.values.items b.ascending b.beside c.args.counter c.in-Ok.at c.in-Ok.ensures.found c.index.result.now c.index.ensures)

pub returns-in-Err-clause-none : goal.returns-in-Err-clause-none
returns-in-Err-clause-none g c =
    let b = c.args.self.now in
    let gap = c.in-Err.ensures.absent in
    none_then c.before-in-Err.result c.before-in-Err.ensures.none
    (none_before b.counters.items b.values.items b.ascending (λ d. d ≤ c.args.counter) c.in-Err.at (before_gap b.counters.items c.args.counter c.in-Err.at gap))

pub returns-in-Err-clause-some : goal.returns-in-Err-clause-some
returns-in-Err-clause-some g c =
    let b = c.args.self.now in
    let gap = c.in-Err.ensures.absent in
    IfSome_then c.before-in-Err.result c.before-in-Err.ensures.some
    (λ e p.
    greatest_before b.counters.items b.values.items b.ascending (λ d. d ≤ c.args.counter) c.in-Err.at
    (before_gap b.counters.items c.args.counter c.in-Err.at gap) gap.inside e p.0 p.1 p.2
    (omega (arith, p.0, p.1, gap.before (c.in-Err.at - 1) (omega (arith, p.0)))))
