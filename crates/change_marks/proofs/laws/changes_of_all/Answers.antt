use Rattle.change_marks.proofs.LawLemmas.{all_since_the_beginning, nothing_since_now}
use Rattle.change_marks.proofs.laws.changes_of_all.Goals as goal

pub returns-clause-now : goal.returns-clause-now
returns-clause-now c = nothing_since_now

pub returns-clause-beginning : goal.returns-clause-beginning
returns-clause-beginning c = all_since_the_beginning
