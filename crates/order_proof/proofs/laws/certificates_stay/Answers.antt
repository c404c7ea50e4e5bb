use Rattle.order_proof.proofs.StayLemmas.{certificates_of_parts, certificates_stay}
use Rattle.order_proof.proofs.OnceLemmas.{certificates_in_parts}
use Rattle.order_proof.proofs.laws.certificates_stay.Goals as goal

pub returns-clause-later : goal.returns-clause-later
returns-clause-later c = certificates_stay

pub returns-clause-parts : goal.returns-clause-parts
returns-clause-parts c = certificates_of_parts

pub returns-clause-in_parts : goal.returns-clause-in_parts
returns-clause-in_parts c = certificates_in_parts
