use Rattle.margin_notes.proofs.MemberLemmas.{comments_by_id}
use Rattle.margin_notes.proofs.laws.comments_by_id.Goals as goal

pub returns : goal.returns
returns c = comments_by_id
