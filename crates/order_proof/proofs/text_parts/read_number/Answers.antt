use Rattle.std.proofs.Common.{arith, subst, sym}
use Rattle.std.specs.Prelude.{decimal}
use Rattle.std.specs.Str.{IsUtf8}
use Rattle.std.proofs.lemmas.Fmt.{IsAscii-decimal}
use Rattle.std.proofs.lemmas.Str.{IsUtf8-from_ascii}
use Rattle.order_proof.proofs.text_parts.read_number.Goals as goal

pub returns-in-Err-clause-every : goal.returns-in-Err-clause-every
returns-in-Err-clause-every c n fits is =
    absurd (c.in-Err.ensures.cases.0 (subst IsUtf8 (sym is) (IsUtf8-from_ascii (decimal n) (IsAscii-decimal n (omega (arith, fits))))))
