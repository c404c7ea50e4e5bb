use Rattle.edit_script.proofs.LineLemmas.{asks_utf8}
use Rattle.edit_script.proofs.line.read_line.Goals as goal

pub returns-in_default-clause-unreadable : goal.returns-in_default-clause-unreadable
returns-in_default-clause-unreadable c = record {
  no_note = λ note. c.in_default.ensures.cases.0 note.utf8;
  no_edit = λ command asks. c.in_default.ensures.cases.0 (asks_utf8 c.args.line.now command asks);
}
