use Rattle.edit_script.proofs.OnceLemmas.{lines_ask_once}
use Rattle.edit_script.proofs.laws.lines_ask_once.Goals as goal

pub returns : goal.returns
returns c = lines_ask_once
