use Rattle.manuscript_cli.proofs.MomentsLemmas.{tell_file}
use Rattle.manuscript_cli.proofs.laws.moments_tell_file.Goals as goal

pub returns : goal.returns
returns c = tell_file
