use Rattle.catalogue_notes.proofs.LiftLemmas.{lift_lawful}
use Rattle.catalogue_notes.proofs.laws.lift_is_lawful.Goals as goal

pub returns : goal.returns
returns c = lift_lawful
