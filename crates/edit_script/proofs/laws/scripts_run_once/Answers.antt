use Rattle.edit_script.proofs.OnceLemmas.{scripts_run_once}
use Rattle.edit_script.proofs.laws.scripts_run_once.Goals as goal

pub returns : goal.returns
returns c = scripts_run_once
