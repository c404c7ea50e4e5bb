use Rattle.std.proofs.Common.{ap, arith, refl, ◌+◌}
use Rattle.causal_inbox.specs.Gap.{gaps_before}
use Rattle.causal_inbox.proofs.SpacedLemmas.{lies_at}
use Rattle.causal_inbox.proofs.gapped.place_of.Goals as goal

pub overflow_add-place : goal.overflow_add-place
overflow_add-place g c =
    let place = c.args.gone + c.args.position in
    omega (
      arith,
      (lies_at c.args.items.now c.args.gone c.args.gaps.now c.args.position
          (place + gaps_before c.args.gaps.now place) c.requires.in_order c.requires.within refl).within,
    )

pub overflow_add-result : goal.overflow_add-result
overflow_add-result g c =
    let place = c.args.gone + c.args.position in
    omega (
      arith,
      (lies_at c.args.items.now c.args.gone c.args.gaps.now c.args.position (place + c.gaps_before.result) c.requires.in_order c.requires.within
          (ap (λ n. place + n) c.gaps_before.ensures)).within,
    )

pub returns-clause-within : goal.returns-clause-within
returns-clause-within g c =
    let place = c.args.gone + c.args.position in
    (lies_at c.args.items.now c.args.gone c.args.gaps.now c.args.position (place + c.gaps_before.result) c.requires.in_order c.requires.within
    (ap (λ n. place + n) c.gaps_before.ensures)).within
