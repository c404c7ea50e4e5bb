use Rattle.std.proofs.Common.{arith}
use Rattle.std.specs.Prelude.{⊤}
use Rattle.std.proofs.lemmas.Option.{IfSome_then}
use Rattle.block_map.proofs.CounterLemmas.{greatest_before}
use Rattle.block_map.proofs.block.Block.last.Goals as goal

pub returns-clause-some : goal.returns-clause-some
returns-clause-some g c =
    let b = c.args.self.now in
    IfSome_then c.before-2.result c.before-2.ensures.some
    (λ e p. greatest_before b.counters.items b.values.items b.ascending (λ _. ⊤) c.len.result (λ i inside _. omega (arith, inside, c.len.ensures))
    (omega (arith, c.len.ensures)) e p.0 p.1 p.2 tt)
