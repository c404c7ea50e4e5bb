use Rattle.change_marks.proofs.LawLemmas.{changes_by_filter}
use Rattle.change_marks.proofs.laws.changes_by_filter.Goals as goal

pub returns : goal.returns
returns c = changes_by_filter
