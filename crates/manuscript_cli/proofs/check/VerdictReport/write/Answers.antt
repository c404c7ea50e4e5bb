use Rattle.std.proofs.Common.{inl, subst, true, ◌≡◌, ◌↔◌}
use Rattle.order_proof.specs.Readings.{IsValidText}
use Rattle.manuscript_cli.proofs.CheckLemmas.{answer_reported}
use Rattle.manuscript_cli.proofs.check.VerdictReport.write.Goals as goal

pub returns : goal.returns
returns g c =
    let replica = c.args.replica.now in
    let tested = subst (λ t. (c.in_ok-valid.valid ≡ true) ↔ IsValidText replica.held.history t) c.deref.ensures.value c.in_ok-valid.ensures in
    inl (
      c.answer.result.now,
      answer_reported c.args.self.now.text.items c.answer.result.now replica c.in_ok-valid.valid tested c.answer.ensures.yes c.answer.ensures.no,
      c.gone_out.ensures _ _ c.answer.result.now c.write_whole.ensures,
    )
