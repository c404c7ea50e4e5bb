use Rattle.catalogue_notes.proofs.ValidLemmas.{winners}
use Rattle.catalogue_notes.proofs.laws.winners.Goals as goal

pub returns : goal.returns
returns c = winners
