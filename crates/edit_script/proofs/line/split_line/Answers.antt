use Rattle.std.proofs.Common.{List, ℕ, Some, ◌+◌, take, sym, subst, ◌∙◌}
use Rattle.std.proofs.lemmas.List.{take_rest}
use Rattle.edit_script.specs.Grammar.{BeginsWith}
use Rattle.edit_script.proofs.RunLemmas.{first_line, last_line}
use Rattle.edit_script.proofs.line.split_line.Goals as goal

pub returns-in-Some : goal.returns-in-Some
returns-in-Some c =
    subst (λ (rest : List ℕ). BeginsWith c.args.script.now (take c.in-Some.end c.args.script.now) (Some rest)) (sym (take_rest c.args.script.now (c.in-Some.end + 1)))
    ((first_line _ _ (sym c.line_end.ensures ∙ c.in-Some.is)).0)

pub returns-in-None : goal.returns-in-None
returns-in-None c = last_line _ (sym c.line_end.ensures ∙ c.in-None.is)
