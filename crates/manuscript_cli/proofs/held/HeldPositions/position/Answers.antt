use Rattle.std.proofs.Common.{◌∙◌}
use Rattle.manuscript_cli.proofs.HeldLemmas.{position_among}
use Rattle.manuscript_cli.proofs.held.HeldPositions.position.Goals as goal

pub returns : goal.returns
returns c = c.position.ensures.position ∙ position_among c.args.self.now.replica.now.held.history c.args.id
