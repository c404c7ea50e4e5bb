use Rattle.std.proofs.Common.{ap, sym, ◌∙◌, length, arith, length-append}
use Rattle.edit_script.specs.Grammar.{escaped_scalar}
use Rattle.edit_script.proofs.EscapeLemmas.{escaped_some, no_raw_line_end, no_last_backslash, no_other_backslash}
use Rattle.edit_script.proofs.text.split_scalar.Goals as goal

pub returns-in_err-scalar-clause-none : goal.returns-in_err-scalar-clause-none
returns-in_err-scalar-clause-none c _ ch y is =
    omega (arith, c.in_err-scalar.ensures.steps.0.0, ap length c.chars-scalars.ensures.rest, ap length is, length-append (escaped_scalar ch) y, escaped_some ch)

pub returns-in-10-clause-none : goal.returns-in-10-clause-none
returns-in-10-clause-none c _ = no_raw_line_end _ _ _ (sym c.chars-scalars.ensures.rest ∙ c.in_ok-scalar.ensures.steps.0) c.in-10.is

pub returns-in_err-next-in-92-clause-none : goal.returns-in_err-next-in-92-clause-none
returns-in_err-next-in-92-clause-none c _ =
    no_last_backslash _ _ _ (sym c.chars-scalars.ensures.rest ∙ c.in_ok-scalar.ensures.steps.0) c.in-92.is c.in_err-next-in-92.ensures.steps.0.0

pub returns-in_err-scalar-in-92-clause-none : goal.returns-in_err-scalar-in-92-clause-none
returns-in_err-scalar-in-92-clause-none c _ =
    no_other_backslash _ _ _ _ _ (sym c.chars-scalars.ensures.rest ∙ c.in_ok-scalar.ensures.steps.0) c.in-92.is c.in_ok-next-in-92.ensures.steps.0
    c.in_err-scalar-in-92.ensures.0 c.in_err-scalar-in-92.ensures.1
