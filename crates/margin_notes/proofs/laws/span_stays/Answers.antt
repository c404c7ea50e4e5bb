use Rattle.margin_notes.proofs.PassageLemmas.{comments_stay, span_stays}
use Rattle.margin_notes.proofs.laws.span_stays.Goals as goal

pub returns-clause-elements : goal.returns-clause-elements
returns-clause-elements c = span_stays

pub returns-clause-comments : goal.returns-clause-comments
returns-clause-comments c = comments_stay
