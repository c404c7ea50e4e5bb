use Rattle.command_kinds.proofs.report.write_held.Goals as goal

pub returns : goal.returns
returns g c = record { result = c.write.result; did = c.write.ensures; reported = c.ended.ensures }
