use Rattle.manuscript_cli.proofs.remarks.withdraw_remark.Goals as goal

pub returns : goal.returns
returns g c = c.save_given.ensures.saves.1
