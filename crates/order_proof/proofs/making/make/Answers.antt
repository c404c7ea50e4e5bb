use Rattle.std.proofs.Common.{ap, arith, reverse, sym, take, ◌++◌, ◌-◌, ◌∙◌}
unfoldable use Rattle.order_proof.specs.Making.{certificate}
use Rattle.order_proof.proofs.MadeLemmas.{after_none, after_some, spent}
use Rattle.order_proof.specs.Positions.{history_at}
use Rattle.order_proof.proofs.PositionLemmas.{all_ops}
use Rattle.order_proof.proofs.making.make.Goals as goal

pub steps-init : goal.steps-init
steps-init g c =
    let ops = g.P.Positions.operations c.args.held.now in
    record {
      rest = ap (λ s. s ++ certificate (history_at ops c.count-end.result) c.args.x c.args.y) c.new-steps.ensures.items
          ∙ ap (λ h. certificate h c.args.x c.args.y) (ap (history_at ops) c.count-end.ensures.count ∙ sym (all_ops ops));
      within = omega (arith, c.count-end.ensures.count);
    }

pub steps-preserved : goal.steps-preserved
steps-preserved g c = record {
  rest =
      ap (λ l. l ++ certificate (reverse (take (c.steps.end - 1) (g.P.Positions.operations c.args.held.now))) c.in-Some.next.0 c.in-Some.next.1) c.in_ok-push.ensures.items
      ∙ after_some (g.P.Positions.operations c.args.held.now) c.steps.end c.steps.claim.0 c.steps.claim.1 c.steps.steps.items
      (certificate (reverse (g.P.Positions.operations c.args.held.now)) c.args.x c.args.y) c.in_ok-step.step c.claim_below-below.result
      c.steps-test.true c.steps.invariant.within c.steps.invariant.rest c.in_ok-step.ensures c.claim_below-below.ensures c.in-Some.next c.in-Some.is;
  within = omega (arith, c.steps.invariant.within);
}

pub returns-in-None-clause-steps : goal.returns-in-None-clause-steps
returns-in-None-clause-steps g c =
    c.in_ok-push.ensures.items
    ∙ after_none (g.P.Positions.operations c.args.held.now) c.steps.end c.steps.claim.0 c.steps.claim.1 c.steps.steps.items
    (certificate (reverse (g.P.Positions.operations c.args.held.now)) c.args.x c.args.y) c.in_ok-step.step c.claim_below-below.result
    c.steps-test.true c.steps.invariant.within c.steps.invariant.rest c.in_ok-step.ensures c.claim_below-below.ensures c.in-None.is

pub returns-clause-steps : goal.returns-clause-steps
returns-clause-steps g c =
    spent (g.P.Positions.operations c.args.held.now) c.steps.end c.steps.claim.0 c.steps.claim.1 c.steps.steps.items
    (certificate (reverse (g.P.Positions.operations c.args.held.now)) c.args.x c.args.y) c.steps-test.false c.steps.invariant.rest
