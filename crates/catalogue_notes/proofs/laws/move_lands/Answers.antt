use Rattle.catalogue_notes.proofs.MoveLemmas.{move_lands}
use Rattle.catalogue_notes.proofs.laws.move_lands.Goals as goal

pub returns : goal.returns
returns c = move_lands
