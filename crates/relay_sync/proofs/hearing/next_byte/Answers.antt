use Rattle.std.proofs.Common.{[], arith, refl, rules, slice_index_or, ◌∷◌}
use Rattle.relay_sync.proofs.HearingLemmas.{read_fails}
use Rattle.relay_sync.proofs.hearing.next_byte.Goals as goal

pub returns-then-heard-eq-STREAM_LIMIT-clause-err : goal.returns-then-heard-eq-STREAM_LIMIT-clause-err
returns-then-heard-eq-STREAM_LIMIT-clause-err g c = λ before front place. record {
  bytes = slice_index_or c.read.new.buf 0 0 ∷ [];
  hears = search rules;
  stops = (before, slice_index_or c.read.new.buf 0 0, refl, front, omega (arith, place, c.if-heard-eq-STREAM_LIMIT.true));
}

pub returns-in_default-clause-err : goal.returns-in_default-clause-err
returns-in_default-clause-err g c = λ before front place. read_fails c.read.result c.in_default.field-0 _ _ _ _ before c.in_default.is c.read.ensures front
