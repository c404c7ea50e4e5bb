use Rattle.std.proofs.Common.{reverse, sym, ◌∙◌}
use Rattle.order_proof.proofs.ValidTextLemmas.{no_valid_text, valid_text}
use Rattle.order_proof.proofs.checking.check_text.Goals as goal

pub returns-in-Some : goal.returns-in-Some
returns-in-Some g c =
    let read = rw c.in-Some.is at c.in_ok-proof.ensures.proof in
    record {
      valid = valid_text (reverse (g.P.Positions.operations c.args.held.now)) c.args.text.now c.in-Some.proof c.check.result read.0
          (λ d p. sym c.in-Some.is ∙ c.in_ok-proof.ensures.every d p) c.check.ensures.valid;
    }

pub returns-in-None : goal.returns-in-None
returns-in-None g c = record {
  valid = no_valid_text (reverse (g.P.Positions.operations c.args.held.now)) c.args.text.now
      (λ d p. sym c.in-None.is ∙ c.in_ok-proof.ensures.every d p);
}
