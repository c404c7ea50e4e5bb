use Rattle.note_laws.proofs.ArrangementLemmas.{move_moves_one, positions_keep_order}
use Rattle.note_laws.proofs.WinnerLemmas.{later_position, position_stays, position_stays_exactly}
use Rattle.note_laws.proofs.moves.move_moves_one.Goals as goal

pub returns-clause-position : goal.returns-clause-position
returns-clause-position c = position_stays

pub returns-clause-exactly : goal.returns-clause-exactly
returns-clause-exactly c = position_stays_exactly

pub returns-clause-later : goal.returns-clause-later
returns-clause-later c = later_position

pub returns-clause-order : goal.returns-clause-order
returns-clause-order c = positions_keep_order

pub returns-clause-unmoved : goal.returns-clause-unmoved
returns-clause-unmoved c = move_moves_one
