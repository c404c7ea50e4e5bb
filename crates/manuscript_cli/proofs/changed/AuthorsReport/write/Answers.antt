use Rattle.std.proofs.Common.{inl, refl}
use Rattle.change_marks.specs.Authors.{authors_text}
use Rattle.manuscript_cli.proofs.changed.AuthorsReport.write.Goals as goal

pub returns-in-Ok : goal.returns-in-Ok
returns-in-Ok g c =
    let text = authors_text c.args.replica.now.held.history in
    inl (text, refl, c.gone_out.ensures _ _ text c.in-Ok.ensures.text)
