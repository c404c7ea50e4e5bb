use Rattle.catalogue_notes.proofs.ValidLemmas.{valid_in_whole}
use Rattle.catalogue_notes.proofs.laws.valid_in_whole.Goals as goal

pub returns : goal.returns
returns c = valid_in_whole
