use Rattle.std.proofs.Common.{[], List, ap, arith, drop, length, length-drop, take, ℕ, ◌≡◌, ◌∙◌, ◌∷◌}
use Rattle.std.proofs.lemmas.List.{length-take-le, take-append-drop}
use Rattle.std.proofs.lemmas.Result.{err_from_is_err_and}
use Rattle.relay_sync.proofs.HearingLemmas.{number_front, stops_behind}
use Rattle.relay_sync.proofs.hearing.next_number.Goals as goal

pub returns-in_err-byte-clause-err : goal.returns-in_err-byte-clause-err
returns-in_err-byte-clause-err g c =
    let p = err_from_is_err_and c.from_residual.result c.from_residual.ensures.1 in
    let kept = c.bytes.invariant in
    let front : List ℕ = take c.bytes.came c.bytes.number in
    let rest : List ℕ = drop c.bytes.came c.bytes.number in
    let few : length front ≡ c.bytes.came = length-take-le c.bytes.came c.bytes.number (omega (arith, kept.short, kept.long)) in
    rw (p.1, p.2) (stops_behind _ _ _ _ _ (0x55 ∷ []) front kept.hears (c.in_err-byte.ensures.err (0x55 ∷ front)
    (number_front front rest (omega (arith, length-drop c.bytes.came c.bytes.number, kept.long, c.bytes-test.true))
    (ap length (take-append-drop c.bytes.came c.bytes.number) ∙ kept.long))
    (omega (arith, kept.count, few))))
