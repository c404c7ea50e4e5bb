use Rattle.std.proofs.Common.{inl, refl}
use Rattle.passage_remarks.specs.Remarks.{remarks_text}
use Rattle.manuscript_cli.proofs.remarks.RemarksReport.write.Goals as goal

pub returns-in-Ok : goal.returns-in-Ok
returns-in-Ok g c =
    let text = remarks_text c.args.replica.now.held.history in
    inl (text, refl, c.gone_out.ensures _ _ text c.in-Ok.ensures.text)
