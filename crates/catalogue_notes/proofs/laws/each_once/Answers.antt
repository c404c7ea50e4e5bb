use Rattle.catalogue_notes.proofs.ArrangedLemmas.{each_once}
use Rattle.catalogue_notes.proofs.laws.each_once.Goals as goal

pub returns : goal.returns
returns c = each_once
