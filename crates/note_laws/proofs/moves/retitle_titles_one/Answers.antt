use Rattle.note_laws.proofs.WinnerLemmas.{heading_stays, later_heading}
use Rattle.note_laws.proofs.moves.retitle_titles_one.Goals as goal

pub returns-clause-heading : goal.returns-clause-heading
returns-clause-heading c = heading_stays

pub returns-clause-later : goal.returns-clause-later
returns-clause-later c = later_heading
