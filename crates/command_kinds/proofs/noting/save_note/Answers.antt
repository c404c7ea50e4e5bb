use Rattle.command_kinds.proofs.noting.save_note.Goals as goal

pub returns : goal.returns
returns g c = c.save_given.ensures.saves.1
