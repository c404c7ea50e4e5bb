use Rattle.change_marks.proofs.LongestLemmas.{stretches_are_longest}
use Rattle.change_marks.proofs.laws.runs_are_longest.Goals as goal

pub returns : goal.returns
returns c = stretches_are_longest
