use Rattle.command_kinds.specs.Refusal.{refusal_line}
use Rattle.command_kinds.proofs.LineLemmas.{line_reported}
use Rattle.command_kinds.proofs.refusal.tell.Goals as goal

pub returns-clause-reported : goal.returns-clause-reported
returns-clause-reported g c = line_reported c.write_line.result _ _ (refusal_line c.args.refusal) c.write_line.ensures.text c.write_line.ensures.short
