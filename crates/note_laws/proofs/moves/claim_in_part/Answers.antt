use Rattle.note_laws.proofs.ClaimPartLemmas.{move_in_part, retitle_in_part}
use Rattle.note_laws.proofs.moves.claim_in_part.Goals as goal

pub returns-clause-moves : goal.returns-clause-moves
returns-clause-moves c = move_in_part

pub returns-clause-retitles : goal.returns-clause-retitles
returns-clause-retitles c = retitle_in_part
