use Rattle.std.proofs.Common.{inl, refl}
use Rattle.catalogue_notes.specs.Arranged.{arranged_text}
use Rattle.manuscript_cli.proofs.arrange.ArrangementReport.write.Goals as goal

pub returns : goal.returns
returns g c = inl (arranged_text c.args.replica.now.held.history, refl, c.put_arrangement.ensures)
