use Rattle.manuscript_cli.proofs.AloneLemmas.{written_alone}
use Rattle.manuscript_cli.proofs.bulk.bulk.Goals as goal

pub returns : goal.returns
returns g c = written_alone _ _ _ _ (record { result = c.made.result; did = c.made.ensures; reported = c.ended.ensures })
