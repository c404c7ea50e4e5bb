use Rattle.origin_model.specs.declared.grammar.Grammar.TheVariants.{Version1, Version2}
use Rattle.op_frame.proofs.ComesLemmas.{comes_once, comes_some}
use Rattle.op_frame.proofs.law.comes_once.Goals as goal

pub returns-clause-version_1 : goal.returns-clause-version_1
returns-clause-version_1 c = record { one = comes_once Version1; some = comes_some Version1 }

pub returns-clause-version_2 : goal.returns-clause-version_2
returns-clause-version_2 c = record { one = comes_once Version2; some = comes_some Version2 }
