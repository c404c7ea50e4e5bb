use Rattle.std.proofs.Common.{ap, arith, ℕ, ◌+◌, ◌-◌, ◌≡◌, get_or, length}
use Rattle.std.proofs.lemmas.List.{get_or_default}
use Rattle.causal_inbox.specs.Gap.{gaps_before}
use Rattle.causal_inbox.proofs.SpacedLemmas.{stretch_there}
use Rattle.causal_inbox.proofs.gapped.next_gap.Goals as goal

pub returns-then-before-gaps-clause-behind : goal.returns-then-before-gaps-clause-behind
returns-then-before-gaps-clause-behind g c =
    let gaps = c.args.gaps.now in
    let place : ℕ = c.args.gone + c.args.position in
    let s = stretch_there c.args.items.now c.args.gone gaps place c.args.at c.requires.in_order (omega arith) (omega (arith, c.requires.within)) c.requires.at in
    let before : c.args.at - c.args.gone - c.args.position ≡ gaps_before gaps place = omega (arith, c.requires.at) in
    omega (
      arith,
      s.some,
      ap (λ k. get_or gaps k (length c.args.items.now)) before,
      get_or_default gaps (c.args.at - c.args.gone - c.args.position) 0 (length c.args.items.now) c.if-before-gaps.true,
    )

pub returns-then-before-gaps-clause-within : goal.returns-then-before-gaps-clause-within
returns-then-before-gaps-clause-within g c =
    let gaps = c.args.gaps.now in
    let place : ℕ = c.args.gone + c.args.position in
    let s = stretch_there c.args.items.now c.args.gone gaps place c.args.at c.requires.in_order (omega arith) (omega (arith, c.requires.within)) c.requires.at in
    let before : c.args.at - c.args.gone - c.args.position ≡ gaps_before gaps place = omega (arith, c.requires.at) in
    omega (
      arith,
      s.within,
      ap (λ k. get_or gaps k (length c.args.items.now)) before,
      get_or_default gaps (c.args.at - c.args.gone - c.args.position) 0 (length c.args.items.now) c.if-before-gaps.true,
    )

pub returns-else-before-gaps-clause-behind : goal.returns-else-before-gaps-clause-behind
returns-else-before-gaps-clause-behind g c =
    let gaps = c.args.gaps.now in
    let place : ℕ = c.args.gone + c.args.position in
    let s = stretch_there c.args.items.now c.args.gone gaps place c.args.at c.requires.in_order (omega arith) (omega (arith, c.requires.within)) c.requires.at in
    omega (arith, s.some, s.within)
