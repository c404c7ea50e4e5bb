use Rattle.std.proofs.Common.{arith, drop, length, length-drop, ◌-◌}
use Rattle.std.proofs.Math.Facts.{Fits-lt-pow}
use Rattle.std.proofs.lemmas.List.{take_all}
use Rattle.op_frame.proofs.DueLemmas.{numbers_there, run_done, run_front}
use Rattle.op_frame.proofs.FieldLemmas.{counter_cut, replica_cut}
use Rattle.op_frame.proofs.run_fields.judge_first.Goals.{else-bytes-ge4-via-then-bytes-ge4+else-number-eq0, else-bytes-ge4-via-else-bytes-ge4}
use Rattle.op_frame.proofs.run_fields.judge_first.Goals as goal

pub returns-then-bytes-lt8 : goal.returns-then-bytes-lt8
returns-then-bytes-lt8 c = elim c.else-bytes-ge4.branch [
  | else-bytes-ge4-via-then-bytes-ge4+else-number-eq0 w ↦
      run_front _ c.if-bytes-lt8.true
      (counter_cut _ w.number.result w.number.ensures (omega (arith, w.if-number-eq0.false)) (omega arith) c.if-bytes-lt8.true (λ i. Fits-lt-pow (c.type_inv.bytes i)))
  | else-bytes-ge4-via-else-bytes-ge4 w ↦ run_front _ c.if-bytes-lt8.true (replica_cut _ (omega (arith, w.if-bytes-ge4.false)) (λ i. Fits-lt-pow (c.type_inv.bytes i)))
]

pub returns : goal.returns
returns c = elim c.else-bytes-ge4.branch [
  | else-bytes-ge4-via-then-bytes-ge4+else-number-eq0 w ↦
      let there = numbers_there c.args.bytes.now _ w.number.result c.number-counter.result (omega (arith, w.if-number-eq0.false)) (omega arith) (omega arith)
      (omega (arith, c.requires, c.if-bytes-lt8.false)) w.number.ensures
      (take_all (length c.args.bytes.now - 4) (drop 4 c.args.bytes.now) (omega (arith, length-drop 4 c.args.bytes.now))) c.number-counter.ensures in
      rw c.most_from.ensures (run_done c.number-counter.result c.args.bytes.now there.0 there.1 (omega (arith, c.if-counter.false)))
  | else-bytes-ge4-via-else-bytes-ge4 w ↦ absurd (omega (arith, w.if-bytes-ge4.false, c.if-bytes-lt8.false))
]
