use Rattle.edit_script.proofs.TakenInLemmas.{scripts_are_taken_in}
use Rattle.edit_script.proofs.laws.scripts_are_taken_in.Goals as goal

pub returns : goal.returns
returns c = scripts_are_taken_in
