use Rattle.op_frame.proofs.DueLemmas.{character_due, note_due, run_due, section_due, target_due}
use Rattle.op_frame.proofs.judge.judge_kind.Goals as goal

pub returns-in-1 : goal.returns-in-1
returns-in-1 c = rw c.in-1.is (section_due c.args.grammar)

pub returns-in-2 : goal.returns-in-2
returns-in-2 c = rw c.in-2.is (character_due c.args.grammar)

pub returns-in-3 : goal.returns-in-3
returns-in-3 c = rw c.in-3.is (target_due c.args.grammar)

pub returns-in-Version2 : goal.returns-in-Version2
returns-in-Version2 c = rw (c.in-4.is, c.in-Version2.is) run_due

pub returns-in-Version2-grammar : goal.returns-in-Version2-grammar
returns-in-Version2-grammar c = rw (c.in-5.is, c.in-Version2-grammar.is) note_due
