-- What holds of a result in one case.
use Rattle.std.proofs.Common.{sym}
use Rattle.std.specs.Prelude.{Err, IsOk, Ok, OnErr, OnOk, Result}
use Rattle.std.proofs.lemmas.Bool.{true≢false}

-- what holds, holds where there is an error
pub err_from : {T E : Type 0} (P : Type 0) (r : Result T E) → P → OnErr r P
err_from P (Ok x) p = tt
err_from P (Err e) p = p

-- what holds of what came out well
pub ok_gives : {T E : Type 0} (P : Type 0) (r : Result T E) → IsOk r → OnOk r P → P
ok_gives P (Ok x) ok p = p
ok_gives P (Err e) ok p = absurd (true≢false (sym ok))

-- and what follows from it
pub ok_makes : {T E : Type 0} (P Q : Type 0) (r : Result T E) → (P → Q) → OnOk r P → OnOk r Q
ok_makes P Q (Ok x) f p = f p
ok_makes P Q (Err e) f p = tt
