use Rattle.std.proofs.Common.{arith, ◌≡◌}
use Rattle.std.proofs.lemmas.Fmt.{parse-decimal}
use Rattle.order_proof.proofs.text_parts.read_digits.Goals as goal

-- The text of a number is read as that number.
pub returns-in-Ok-clause-every : goal.returns-in-Ok-clause-every
returns-in-Ok-clause-every c n fits is =
    let same = parse-decimal 32 n c.args.digits.now c.parse.result fits (omega (arith, fits)) is c.parse.ensures.value.0 in
    cc (same, c.in-Ok.is)

pub returns-in_default-clause-every : goal.returns-in_default-clause-every
returns-in_default-clause-every c n fits is =
    let same = parse-decimal 32 n c.args.digits.now c.parse.result fits (omega (arith, fits)) is c.parse.ensures.value.0 in
    let number : c.in-Ok.number ≡ n = cc (same, c.in-Ok.is) in
    let canonical = c.is_text_of.ensures.1 (rw number is) in
    cc (canonical, c.if-is_text_of.false)

pub returns-in_default-2-clause-every : goal.returns-in_default-2-clause-every
returns-in_default-2-clause-every c n fits is =
    let same = parse-decimal 32 n c.args.digits.now c.parse.result fits (omega (arith, fits)) is c.parse.ensures.value.0 in
    cc (same, c.in_default.is)
