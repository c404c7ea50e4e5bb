use Rattle.std.proofs.Common.{inl, refl}
use Rattle.margin_notes.specs.Margins.{margins}
use Rattle.manuscript_cli.proofs.comments.CommentsReport.write.Goals as goal

pub returns-in-Ok : goal.returns-in-Ok
returns-in-Ok g c =
    let text = margins c.args.replica.now.held.history in
    inl (text, refl, c.gone_out.ensures _ _ text c.in-Ok.ensures.text)
