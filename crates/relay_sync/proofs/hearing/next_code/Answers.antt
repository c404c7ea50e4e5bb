use Rattle.std.proofs.Common.{[], arith, refl, ◌∷◌}
use Rattle.std.proofs.lemmas.Result.{err_from_is_err_and}
use Rattle.relay_sync.specs.Replies.{IsCode}
use Rattle.relay_sync.proofs.HearingLemmas.{broken_code, refusal_front}
use Rattle.relay_sync.proofs.hearing.next_code.Goals.{then-code-eq0-via-then-code-eq0, then-code-eq0-via-else-code-eq0+then-code-gt3}
use Rattle.relay_sync.proofs.hearing.next_code.Goals as goal

pub returns-in_err-code-clause-err : goal.returns-in_err-code-clause-err
returns-in_err-code-clause-err g c =
    let p = err_from_is_err_and c.from_residual.result c.from_residual.ensures.1 in
    rw (p.1, p.2) (c.in_err-code.ensures.err (0x58 ∷ []) refusal_front (omega (arith, c.requires.count)))

pub returns-then-code-eq0-clause-err : goal.returns-then-code-eq0-clause-err
returns-then-code-eq0-clause-err g c =
    let none : IsCode c.in_ok-code.code → ⊥ = λ is. elim c.then-code-eq0.branch [
      | then-code-eq0-via-then-code-eq0 w ↦ omega (arith, w.if-code-eq0.true, is.0)
      | then-code-eq0-via-else-code-eq0+then-code-gt3 w ↦ omega (arith, w.if-code-gt3.true, is.1)
    ] in
    record {
      bytes = c.in_ok-code.code ∷ [];
      hears = c.in_ok-code.ensures.ok;
      stops = (refl, broken_code c.in_ok-code.code none, omega (arith, c.requires.count, c.in_ok-code.ensures.count, c.in_ok-code.ensures.within));
    }
