use Rattle.std.proofs.Common.{ap, arith, sym, List, ℕ, ◌+◌, ◌++◌, ◌-◌, ◌≡◌, ◌∙◌, drop, length, take}
use Rattle.std.proofs.Math.Seq.{take-append_seam}
use Rattle.causal_inbox.specs.Gap.{between_gaps}
use Rattle.causal_inbox.proofs.SpacedLemmas.{stretch_there}
use Rattle.causal_inbox.proofs.gapped.stretch_of.Goals as goal

pub returns-clause-items : goal.returns-clause-items
returns-clause-items g c =
    let items = c.args.items.now in
    let at : ℕ = c.place_of-at.result in
    let place : ℕ = c.args.gone + c.args.position in
    let there = stretch_there items c.args.gone c.args.gaps.now place at c.requires.in_order (omega arith) (omega (arith, c.requires.within)) c.place_of-at.ensures.place in
    let found : List _ = take (c.next_gap-end.result - at) (drop at items) in
    let whole : drop c.args.position (between_gaps items c.args.gone c.args.gaps.now) ≡ found ++ there.rest =
    ap (λ n. drop n (between_gaps items c.args.gone c.args.gaps.now)) {x = c.args.position} {y = place - c.args.gone} (omega arith) ∙ there.is
    ∙ ap (λ n. take (n - at) (drop at items) ++ there.rest) (sym c.next_gap-end.ensures.gap) in
    sym (ap (take (length found)) whole ∙ take-append_seam found there.rest)
