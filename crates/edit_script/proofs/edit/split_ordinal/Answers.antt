use Rattle.std.proofs.Common.{◌+◌, arith}
use Rattle.std.specs.Prelude.{decimal}
use Rattle.std.proofs.lemmas.Option.{none-some, same_Some}
use Rattle.edit_script.proofs.WordLemmas.{decimal_spaceless}
use Rattle.edit_script.proofs.edit.split_ordinal.Goals as goal

pub returns-in_err-number-clause-every : goal.returns-in_err-number-clause-every
returns-in_err-number-clause-every c k behind small is = absurd (c.in_err-number.ensures.every (decimal (k + 1)) behind (decimal_spaceless (k + 1) (omega (arith, small))) is)

pub returns-in_err-read_ordinal-clause-every : goal.returns-in_err-read_ordinal-clause-every
returns-in_err-read_ordinal-clause-every c k behind small is =
    let parts = c.in_ok-number.ensures.every (decimal (k + 1)) behind (decimal_spaceless (k + 1) (omega (arith, small))) is in
    absurd (none-some k (c.in_err-read_ordinal.ensures.every k small parts.0))

pub returns-clause-every : goal.returns-clause-every
returns-clause-every c k behind small is =
    let parts = c.in_ok-number.ensures.every (decimal (k + 1)) behind (decimal_spaceless (k + 1) (omega (arith, small))) is in
    (same_Some _ _ (c.in_ok-read_ordinal.ensures.every k small parts.0), parts.1)
