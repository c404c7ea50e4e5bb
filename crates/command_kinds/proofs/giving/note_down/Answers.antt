use Rattle.command_kinds.proofs.giving.note_down.Goals as goal

pub returns-in-Revised-clause-meets : goal.returns-in-Revised-clause-meets
returns-in-Revised-clause-meets g c = rw c.in-Revised.is c.note_revised.ensures.meets
