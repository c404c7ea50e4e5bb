use Rattle.std.proofs.Common.{subst, sym}
use Rattle.std.specs.Prelude.{Err}
use Rattle.catalogue_notes.specs.Moving.{NoteRefusesAs}
use Rattle.catalogue_notes.proofs.MovingLemmas.{note_refuses_err, note_refuses_ok}
use Rattle.catalogue_notes.proofs.moving.make.Goals as goal

pub returns-in-Ok-clause-refused : goal.returns-in-Ok-clause-refused
returns-in-Ok-clause-refused c = note_refuses_ok c.args.replica.now c.in-Ok.count c.in-Ok.ensures.refused

pub returns-in-Err-clause-refused : goal.returns-in-Err-clause-refused
returns-in-Err-clause-refused c =
    subst (λ f. NoteRefusesAs c.args.replica.now (Err f)) (sym c.fault_of.ensures) (note_refuses_err c.args.replica.now c.in-Err.fault c.in-Err.ensures.refused)
