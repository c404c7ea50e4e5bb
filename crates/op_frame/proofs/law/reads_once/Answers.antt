use Rattle.origin_model.specs.declared.grammar.Grammar.{Grammar}
use Rattle.origin_model.specs.declared.grammar.Grammar.TheVariants.{Version1, Version2}
use Rattle.origin_model.proofs.SharedLemmas.{singles_read}
use Rattle.op_frame.specs.Laws.{ReadsOnce}
use Rattle.op_frame.proofs.ReadingLemmas.{reads_once, reads_some}
use Rattle.op_frame.proofs.law.reads_once.Goals as goal

by_grammar : (g : Grammar) → ReadsOnce g
by_grammar g = record { one = reads_once g; some = reads_some g; singles = singles_read g }

pub returns-clause-version_1 : goal.returns-clause-version_1
returns-clause-version_1 c = by_grammar Version1

pub returns-clause-version_2 : goal.returns-clause-version_2
returns-clause-version_2 c = by_grammar Version2
