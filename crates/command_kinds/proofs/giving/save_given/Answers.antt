use Rattle.command_kinds.specs.Changes.{change}
use Rattle.command_kinds.proofs.BlameLemmas.{not_blamed}
use Rattle.command_kinds.proofs.GivingLemmas.{note_saves}
use Rattle.command_kinds.proofs.ActLemmas.{reported_performs}
use Rattle.command_kinds.proofs.SavesLemmas.{saves_given}
use Rattle.command_kinds.specs.Saving.{saving}
use Rattle.command_kinds.proofs.giving.save_given.Goals as goal

pub returns-in-Ok-clause-saves : goal.returns-in-Ok-clause-saves
returns-in-Ok-clause-saves g c =
    let finding = c.in-Ok.ensures.saves.0 in (
      finding,
      note_saves (g.T.Gives.ops_source c.args.ops_source.now (g.H.Disk.seen c.args.home.now) c.args.from.now c.load_and_save.new.from finding) (c.laws.ensures.once _ _ _ finding) _
          (change (g.N.Out.seen c.args.notes.now) (g.N.Out.seen c.note_down.new.notes)) _ _ c.in-Ok.ensures.saves.1 c.note_down.ensures.meets c.note_down.ensures.counts_no_fault
          (λ tells inside. c.in-Ok.ensures.specified tells (λ is. cc is)) c.note_down.ensures.blameless,
    )

pub returns-in-Err-clause-saves : goal.returns-in-Err-clause-saves
returns-in-Err-clause-saves g c =
    let finding = c.in-Err.ensures.saves.0 in
    let ops_source = g.T.Gives.ops_source c.args.ops_source.now (g.H.Disk.seen c.args.home.now) c.args.from.now c.load_and_save.new.from finding in
    let file = change (g.H.Disk.seen c.args.home.now) (g.H.Disk.seen c.load_and_save.new.home) in
    let notes = change (g.N.Out.seen c.args.notes.now) (g.N.Out.seen c.tell.new.notes) in (
      finding,
      rw c.tell.ensures.status (saves_given ops_source (c.laws.ensures.once _ _ _ finding) file notes _
          (reported_performs (saving ops_source file) notes c.in-Err.why c.in-Err.ensures.saves.1 c.tell.ensures.reported)
          (λ tells inside. c.in-Err.ensures.specified tells (not_blamed c.in-Err.why inside))),
    )
