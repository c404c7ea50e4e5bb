use Rattle.std.proofs.Common.{arith, sym, ◌∙◌}
use Rattle.std.specs.Str.{chars}
use Rattle.std.proofs.lemmas.Grind.{common_steps}
use Rattle.section_plan.proofs.AlikeLemmas.{served_empty}
use Rattle.section_plan.proofs.alike.serve_part.Goals as goal

pub returns-then-is_empty-clause-served : goal.returns-then-is_empty-clause-served
returns-then-is_empty-clause-served c =
    served_empty c.args.pairs.now c.args.index.now.texts.items c.args.place (chars c.args.text.now)
    (sym c.in_ok-list.ensures ∙ grind (arith, common_steps, c.if-is_empty.ensures, c.if-is_empty.true))
