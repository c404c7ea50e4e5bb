use Rattle.std.proofs.Common.{List, [], ap, sym, ℕ, ◌++◌, ◌∙◌}
use Rattle.std.proofs.lemmas.List.{append-nil}
use Rattle.origin_model.specs.declared.grammar.Grammar.{Grammar}
use Rattle.origin_model.specs.declared.grammar.Grammar.TheVariants.{Version1, Version2}
use Rattle.origin_model.specs.frames.Frames.{item_bytes}
use Rattle.op_frame.specs.Laws.{OneFrame}
use Rattle.op_frame.proofs.ItemLemmas.{item_code}
use Rattle.op_frame.proofs.OperationLemmas.{operation_code}
use Rattle.op_frame.proofs.law.one_frame.Goals as goal

by_grammar : (g : Grammar) → OneFrame g
by_grammar g = record {
  one_item = λ a b p q same. ((item_code g).once a b [] [] p q (ap (λ (l : List ℕ). l ++ []) same)).0;
  one_operation = λ a b p q same. (operation_code.once a b [] [] p q (ap (λ (l : List ℕ). l ++ []) same)).0;
  no_front = λ a b more p q same. sym ((item_code g).once b a [] more q p (append-nil (item_bytes b) ∙ same)).1;
}

pub returns-clause-version_1 : goal.returns-clause-version_1
returns-clause-version_1 c = by_grammar Version1

pub returns-clause-version_2 : goal.returns-clause-version_2
returns-clause-version_2 c = by_grammar Version2
