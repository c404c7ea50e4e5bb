use Rattle.change_marks.proofs.LawLemmas.{authors_tell_all}
use Rattle.change_marks.proofs.laws.authors_tell_all.Goals as goal

pub returns : goal.returns
returns c = authors_tell_all
