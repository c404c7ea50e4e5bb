use Rattle.catalogue_notes.proofs.RetitleLemmas.{retitle_lands}
use Rattle.catalogue_notes.proofs.laws.retitle_lands.Goals as goal

pub returns : goal.returns
returns c = retitle_lands
