use Rattle.note_laws.proofs.CommentSetLemmas.{comments_by_set}
use Rattle.note_laws.proofs.comments.comments_by_set.Goals as goal

pub returns : goal.returns
returns c = comments_by_set
