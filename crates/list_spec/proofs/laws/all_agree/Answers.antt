use Rattle.list_spec.proofs.AgreementLemmas.{all_agree, has_everything}
use Rattle.list_spec.proofs.laws.all_agree.Goals as goal

pub returns-clause-everything : goal.returns-clause-everything
returns-clause-everything c = has_everything

pub returns-clause-agree : goal.returns-clause-agree
returns-clause-agree c = all_agree
