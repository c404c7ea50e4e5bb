use Rattle.note_laws.proofs.SectionLemmas.{listed_once, looked_up, one_section}
use Rattle.note_laws.proofs.comments.comment_in_one_section.Goals as goal

pub returns-clause-one : goal.returns-clause-one
returns-clause-one c = one_section

pub returns-clause-looked_up : goal.returns-clause-looked_up
returns-clause-looked_up c = looked_up

pub returns-clause-listed : goal.returns-clause-listed
returns-clause-listed c = listed_once
