use Rattle.kept_promises.proofs.ViewLemmas as viewing
use Rattle.kept_promises.proofs.laws.views_stay.Goals as goal

pub returns-clause-files : goal.returns-clause-files
returns-clause-files c = viewing.views_stay

pub returns-clause-printed : goal.returns-clause-printed
returns-clause-printed c = viewing.views_print_the_same
