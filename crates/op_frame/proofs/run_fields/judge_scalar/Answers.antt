use Rattle.std.proofs.Common.{arith, get_or, subst, sym}
use Rattle.std.proofs.Math.Facts.{Fits-lt-pow}
use Rattle.std.specs.Char.{IsScalar}
use Rattle.op_frame.specs.FrameFronts.{scalar_of_bytes}
use Rattle.op_frame.proofs.DueLemmas.{none_holds, scalar_done, scalar_front, scalar_never}
use Rattle.op_frame.proofs.FieldLemmas.{some_holds}
use Rattle.op_frame.proofs.run_fields.judge_scalar.Goals as goal

pub returns-then-bytes-lt3 : goal.returns-then-bytes-lt3
returns-then-bytes-lt3 c = (
  c.if-bytes-lt3.true,
  scalar_front c.args.count c.args.bytes.now c.requires.left c.requires.some c.if-bytes-lt3.true (λ i. Fits-lt-pow (c.type_inv.bytes i))
      (subst IsScalar (λ i. scalar_of_bytes (get_or c.args.bytes.now 0 0) (c.byte_or_0.ensures i) (c.byte_or_0-2.ensures i))
      (some_holds _ _ _ c.scalar_of.ensures c.if-is_none.ensures)),
)

pub returns : goal.returns
returns c =
    rw c.scalars_due.ensures
    (scalar_done c.args.count c.args.bytes.now c.requires.left (omega (arith, c.requires.short, c.if-bytes-lt3.false)) (λ i. Fits-lt-pow (c.type_inv.bytes i))
    (subst IsScalar (λ i. scalar_of_bytes (get_or c.args.bytes.now 0 0) (c.byte_or_0.ensures i) (c.byte_or_0-2.ensures i))
    (some_holds _ _ _ c.scalar_of.ensures c.if-is_none.ensures)))

pub returns-then-is_none : goal.returns-then-is_none
returns-then-is_none c =
    scalar_never c.args.count c.args.bytes.now c.requires.left c.requires.some c.requires.short
    (λ is. none_holds _ _ _ c.scalar_of.ensures c.if-is_none.ensures
    (subst IsScalar (λ i. scalar_of_bytes (get_or c.args.bytes.now 0 0) (sym c.byte_or_0.ensures i) (sym c.byte_or_0-2.ensures i)) is))
