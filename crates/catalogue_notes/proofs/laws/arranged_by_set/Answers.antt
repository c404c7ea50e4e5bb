use Rattle.catalogue_notes.proofs.SetLemmas.{arranged_by_set}
use Rattle.catalogue_notes.proofs.laws.arranged_by_set.Goals as goal

pub returns : goal.returns
returns c = arranged_by_set
