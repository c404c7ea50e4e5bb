use Rattle.origin_model.proofs.taking.KeptLemmas.{kept_suffice, parts_as_one, saved_suffice, stays_settled}
use Rattle.origin_model.proofs.taking.SettlingLemmas.{settles}
use Rattle.origin_model.proofs.laws.kept_suffice.Goals as goal

pub returns-clause-kept : goal.returns-clause-kept
returns-clause-kept c = kept_suffice

pub returns-clause-settles : goal.returns-clause-settles
returns-clause-settles c = settles

pub returns-clause-settled : goal.returns-clause-settled
returns-clause-settled c = stays_settled

pub returns-clause-parts : goal.returns-clause-parts
returns-clause-parts c = parts_as_one

pub returns-clause-saved : goal.returns-clause-saved
returns-clause-saved c = saved_suffice
