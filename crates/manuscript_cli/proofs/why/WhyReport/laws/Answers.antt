use Rattle.manuscript_cli.proofs.WhyLemmas.{why_once}
use Rattle.manuscript_cli.proofs.why.WhyReport.laws.Goals as goal

pub returns : goal.returns
returns c replica lawful a b one two = why_once c.args.self.now.section c.args.self.now.first c.args.self.now.second replica lawful a b one two
