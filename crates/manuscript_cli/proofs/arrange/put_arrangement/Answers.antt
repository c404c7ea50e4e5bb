use Rattle.catalogue_notes.specs.Arranged.{arranged_text}
use Rattle.manuscript_cli.proofs.arrange.put_arrangement.Goals as goal

pub returns-in-Ok : goal.returns-in-Ok
returns-in-Ok g c = c.gone_out.ensures _ _ (arranged_text c.args.replica.now.held.history) c.in-Ok.ensures.text
