use Rattle.catalogue_notes.proofs.SetLemmas.{lifted_order_stays}
use Rattle.catalogue_notes.proofs.laws.lifted_order_stays.Goals as goal

pub returns : goal.returns
returns c = lifted_order_stays
