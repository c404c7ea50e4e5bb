use Rattle.manuscript_cli.proofs.RunsLemmas.{each_finished_is_in}
use Rattle.manuscript_cli.proofs.laws.every_finished_command_is_in_the_file.Goals as goal

pub returns : goal.returns
returns c = each_finished_is_in
