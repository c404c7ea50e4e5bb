use Rattle.std.proofs.Common.{arith}
use Rattle.std.proofs.Math.Facts.{Fits-lt-pow}
use Rattle.op_frame.proofs.FieldLemmas.{counter_cut, id_there, replica_cut}
use Rattle.op_frame.proofs.DueLemmas.{identifier_done, identifier_front}
use Rattle.op_frame.proofs.judge.judge_identifier.Goals as goal

pub returns-then-bytes-lt4 : goal.returns-then-bytes-lt4
returns-then-bytes-lt4 c =
    identifier_front _ _ _ _ c.requires.some c.requires.sound (omega (arith, c.if-bytes-lt4.true)) (replica_cut _ c.if-bytes-lt4.true (λ i. Fits-lt-pow (c.type_inv.bytes i)))

pub returns-then-bytes-lt8 : goal.returns-then-bytes-lt8
returns-then-bytes-lt8 c =
    identifier_front _ _ _ _ c.requires.some c.requires.sound c.if-bytes-lt8.true
    (counter_cut _ c.number.result c.number.ensures (omega (arith, c.if-number-eq0.false)) (omega arith) c.if-bytes-lt8.true (λ i. Fits-lt-pow (c.type_inv.bytes i)))

pub returns : goal.returns
returns c =
    identifier_done _ _ _ _ c.requires.some c.requires.sound
    (id_there _ c.number.result c.number.ensures (omega (arith, c.if-number-eq0.false)) (omega arith) (omega (arith, c.requires.short, c.if-bytes-lt8.false))
    (λ i. Fits-lt-pow (c.type_inv.bytes i)))
