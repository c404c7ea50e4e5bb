use Rattle.std.proofs.lemmas.Result.{err_from_is_err_and}
use Rattle.command_kinds.specs.Findings.{Refuses}
use Rattle.command_kinds.specs.declared.refusal.Refusal.TheVariants.{NoMemory}
use Rattle.command_kinds.proofs.NoteLemmas.{note_gives, note_gives_none}
use Rattle.command_kinds.proofs.noting.NotingGivesUnit.give.Goals as goal

pub returns-clause-gives : goal.returns-clause-gives
returns-clause-gives g c home last holds =
    (Refuses NoMemory, note_gives (g.T.MakesNote.note_on c.args.self.now.maker.now) _ _ c.in_ok-make.ensures.comes c.requires.ready.sound c.requires.ready.settled _)

pub returns-in_err-make-clause-gives : goal.returns-in_err-make-clause-gives
returns-in_err-make-clause-gives g c home last holds =
    let p = err_from_is_err_and c.from_residual.result c.from_residual.ensures.1 in
    rw (p.1, p.2) (
      Refuses NoMemory,
      note_gives_none
          (g.T.MakesNote.note_on c.args.self.now.maker.now) c.args.replica.now c.make.new.replica c.args._kept.now c.in_err-make.field-0.0 c.in_err-make.ensures.comes,
    )
