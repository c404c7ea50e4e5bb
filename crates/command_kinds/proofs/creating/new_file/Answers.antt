use Rattle.command_kinds.proofs.NewLemmas.{created, not_created}
use Rattle.command_kinds.proofs.creating.new_file.Goals as goal

pub returns-in-Ok : goal.returns-in-Ok
returns-in-Ok g c = created _ _ _ _ _ _ c.in-Ok.ensures

pub returns-in-Err : goal.returns-in-Err
returns-in-Err g c =
    rw c.tell.ensures.status (rw c.from.ensures (not_created _ _ _ _ _ _ c.in-Err.fault c.in-Err.ensures (rw c.from.ensures at c.tell.ensures.reported)))
