use Rattle.change_marks.specs.Changes.{changes_text}
use Rattle.manuscript_cli.proofs.changed.put_changes.Goals as goal

pub returns-in-Ok : goal.returns-in-Ok
returns-in-Ok g c = c.gone_out.ensures _ _ (changes_text c.args.then.now.held.history c.args.now.now.held.history) c.in-Ok.ensures.text
