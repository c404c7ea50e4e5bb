use Rattle.std.proofs.Common.{ap, inl, ◌∙◌}
use Rattle.batch_moments.specs.Lines.{moments_text}
use Rattle.command_kinds.specs.Findings.{Does}
use Rattle.manuscript_cli.proofs.moments.MomentsReport.write.Goals as goal

pub returns : goal.returns
returns g c =
    let reported = c.in_ok-text.ensures ∙ (λ i. moments_text (c.deref.ensures.value i) (c.accepted.ensures.accepted i)) in
    inl (c.as_slice.result.now, ap Does (c.as_slice.ensures.value ∙ reported), c.gone_out.ensures _ _ c.as_slice.result.now c.write_whole.ensures)
