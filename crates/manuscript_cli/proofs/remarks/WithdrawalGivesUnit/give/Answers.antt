use Rattle.std.proofs.Common.{subst, sym}
use Rattle.std.specs.Prelude.{Err}
use Rattle.command_kinds.specs.Findings.{Refuses}
use Rattle.command_kinds.specs.Giving.{GivesTo}
use Rattle.command_kinds.specs.Notes.{note_source}
use Rattle.command_kinds.specs.declared.refusal.Refusal.TheVariants.{NoMemory}
use Rattle.manuscript_cli.specs.Remarks.{withdraw_on}
use Rattle.manuscript_cli.proofs.RemarkLemmas.{withdrawal_made, withdrawal_none}
use Rattle.manuscript_cli.proofs.remarks.WithdrawalGivesUnit.give.Goals as goal

pub returns-in-Ok-clause-gives : goal.returns-in-Ok-clause-gives
returns-in-Ok-clause-gives c home last holds = (
  Refuses NoMemory,
  withdrawal_made c.args.self.now.number c.args.replica.now c.withdraw.new.replica c.in-Ok.ensures.made c.in-Ok.ensures.refused c.requires.ready.sound
      c.requires.ready.settled c.args._kept.now,
)

pub returns-in-Err-clause-gives : goal.returns-in-Err-clause-gives
returns-in-Err-clause-gives c home last holds = (
  Refuses NoMemory,
  subst (λ r. GivesTo (note_source (withdraw_on c.args.self.now.number)) c.args.replica.now c.withdraw.new.replica c.args._kept.now (Err r)) (sym c.refusal_of.ensures)
      (withdrawal_none c.args.self.now.number c.args.replica.now c.withdraw.new.replica c.args._kept.now c.in-Err.fault c.in-Err.ensures.refused),
)
