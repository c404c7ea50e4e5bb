use Rattle.std.proofs.Common.{ap, arith, length}
use Rattle.causal_inbox.proofs.SpacedLemmas.{length_between}
use Rattle.causal_inbox.proofs.gapped.Gapped.len.Goals as goal

pub overflow_sub-result : goal.overflow_sub-result
overflow_sub-result g c = omega (arith, length_between c.self.inside.items.items c.self.inside.gone c.self.inside.gaps.items c.self.invariant.in_order, c.self.inside.items.ok.0)

pub overflow_sub-result-2 : goal.overflow_sub-result-2
overflow_sub-result-2 g c =
    omega (arith, length_between c.self.inside.items.items c.self.inside.gone c.self.inside.gaps.items c.self.invariant.in_order, c.self.inside.items.ok.0, c.self.inside.gaps.ok.0)

pub returns : goal.returns
returns g c =
    omega (
      arith,
      length_between c.self.inside.items.items c.self.inside.gone c.self.inside.gaps.items c.self.invariant.in_order,
      c.self.inside.items.ok.0,
      c.self.inside.gaps.ok.0,
      ap (λ l. length l.items) c.self.view_is,
    )
