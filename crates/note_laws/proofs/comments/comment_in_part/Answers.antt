use Rattle.note_laws.proofs.CommentPartLemmas.{comment_in_part, listed_in_part, passage_in_part, shown_in_part}
use Rattle.note_laws.proofs.comments.comment_in_part.Goals as goal

pub returns-clause-passage : goal.returns-clause-passage
returns-clause-passage c = passage_in_part

pub returns-clause-shown : goal.returns-clause-shown
returns-clause-shown c = shown_in_part

pub returns-clause-section : goal.returns-clause-section
returns-clause-section c = comment_in_part

pub returns-clause-listed : goal.returns-clause-listed
returns-clause-listed c = listed_in_part
