use Rattle.std.proofs.Common.{◌∷◌, ◌++◌, arith}
use Rattle.std.specs.Prelude.{decimal}
use Rattle.std.proofs.lemmas.Option.{none-some, same_Some}
use Rattle.edit_script.proofs.WordLemmas.{decimal_spaceless}
use Rattle.edit_script.proofs.edit.split_place.Goals as goal

pub returns-in_err-at-clause-every : goal.returns-in_err-at-clause-every
returns-in_err-at-clause-every c k p behind small place_small is =
    let first = c.in_ok-section.ensures.every k (decimal p ++ 32 ∷ behind) small is in
    absurd (c.in_err-at.ensures.every (decimal p) behind (decimal_spaceless p (omega (arith, place_small))) first.1)

pub returns-in_err-read_decimal-clause-every : goal.returns-in_err-read_decimal-clause-every
returns-in_err-read_decimal-clause-every c k p behind small place_small is =
    let first = c.in_ok-section.ensures.every k (decimal p ++ 32 ∷ behind) small is in
    let parts = c.in_ok-at.ensures.every (decimal p) behind (decimal_spaceless p (omega (arith, place_small))) first.1 in
    absurd (none-some p (c.in_err-read_decimal.ensures.every p place_small parts.0))

pub returns-clause-every : goal.returns-clause-every
returns-clause-every c k p behind small place_small is =
    let first = c.in_ok-section.ensures.every k (decimal p ++ 32 ∷ behind) small is in
    let parts = c.in_ok-at.ensures.every (decimal p) behind (decimal_spaceless p (omega (arith, place_small))) first.1 in
    (first.0, same_Some _ _ (c.in_ok-read_decimal.ensures.every p place_small parts.0), parts.1)
