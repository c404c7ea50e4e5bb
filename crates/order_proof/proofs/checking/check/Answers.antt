use Rattle.std.proofs.Common.{ap, reverse, subst, sym, true, ◌∙◌, ◌≡◌, ◌↔◌}
use Rattle.order_proof.specs.Certificates.{IsValid}
use Rattle.order_proof.specs.Checks.{test}
use Rattle.order_proof.specs.Positions.{history_at}
use Rattle.order_proof.proofs.CheckedLemmas.{tested}
use Rattle.order_proof.proofs.PositionLemmas.{all_ops}
use Rattle.order_proof.proofs.checking.check.Goals as goal

pub returns : goal.returns
returns g c =
    let ops = g.P.Positions.operations c.args.held.now in
    let whole : history_at ops c.count.result ≡ reverse ops = ap (history_at ops) c.count.ensures.count ∙ sym (all_ops ops) in
    let passes : c.passes.result ≡ test (reverse ops) c.args.proof.now = c.passes.ensures ∙ (λ i. test (whole i) (c.as_slice.ensures i)) in
    record { valid = subst (λ b. (b ≡ true) ↔ IsValid (reverse ops) c.args.proof.now) (sym passes) (tested (reverse ops) c.count.ensures.lawful c.args.proof.now) }
