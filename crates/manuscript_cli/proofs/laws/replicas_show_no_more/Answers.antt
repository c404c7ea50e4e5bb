use Rattle.manuscript_cli.proofs.ShownLemmas.{shows_no_more}
use Rattle.manuscript_cli.proofs.laws.replicas_show_no_more.Goals as goal

pub returns : goal.returns
returns c = shows_no_more
