use Rattle.std.proofs.Common.{ap, arith, ◌<◌, ◌∙◌, ◌+◌, ◌-◌, length}
use Rattle.causal_inbox.specs.Gap.{items_around_gap}
use Rattle.causal_inbox.proofs.GapLemmas.{moved_back, moved_on}
use Rattle.causal_inbox.proofs.gapped.move_gap.Goals as goal

pub on-preserved : goal.on-preserved
on-preserved g c =
    let size = c.args.size in
    let within : c.on.at + size < length c.on.items = omega (arith, c.on-test.true, c.requires.to, c.on.invariant.len) in
    record {
      len = c.swap.ensures.len ∙ c.on.invariant.len;
      within = omega (arith, c.on-test.true, c.requires.to, c.on.invariant.len, c.swap.ensures.len);
      around = ap (λ l. items_around_gap l (c.on.at + 1) size) c.swap.ensures.after
          ∙ moved_on c.on.items c.on.at size (omega (arith, c.if-size-eq0.false)) within
          ∙ c.on.invariant.around;
    }

pub back-preserved : goal.back-preserved
back-preserved g c =
    let size = c.args.size in
    let at = c.back.at in
    let within : at - 1 + size < length c.back.items = omega (arith, c.back-test.true, c.back.invariant.within) in
    record {
      len = c.swap-in-back.ensures.len ∙ c.back.invariant.len;
      behind = omega (arith, c.back-test.true);
      within = omega (arith, c.back-test.true, c.back.invariant.within, c.swap-in-back.ensures.len);
      around = ap (λ l. items_around_gap l (at - 1) size) c.swap-in-back.ensures.after
          ∙ moved_back c.back.items (at - 1) size (omega (arith, c.if-size-eq0.false)) within
          ∙ ap (λ n. items_around_gap c.back.items n size) {x = at - 1 + 1} {y = at} (omega (arith, c.back-test.true))
          ∙ c.back.invariant.around;
    }
