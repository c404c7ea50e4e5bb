use Rattle.std.proofs.Common.{sym}
use Rattle.draft_plan.proofs.LineLemmas.{line_found, line_whole}
use Rattle.draft_plan.proofs.reading.split_line.Goals as goal

pub returns-in-Some : goal.returns-in-Some
returns-in-Some c = line_found c.in-Some.end c.args.text.now (sym c.in-Some.ensures)

pub returns-in-None : goal.returns-in-None
returns-in-None c = line_whole c.args.text.now c.requires (sym c.in-None.ensures)
