use Rattle.std.proofs.Common.{ℕ, arith, drop, get_or, subst, take, ◌*◌, ◌+◌, ◌-◌, ◌≡◌}
use Rattle.std.proofs.Math.Facts.{Fits-lt-pow}
use Rattle.std.specs.Char.{IsScalar}
use Rattle.op_frame.specs.FrameFronts.{scalar_of_bytes}
use Rattle.op_frame.proofs.DueLemmas.{scalars_done}
use Rattle.op_frame.proofs.run_fields.scalars_in_front.Goals as goal

pub scalars-preserved : goal.scalars-preserved
scalars-preserved c =
    let p : ℕ = c.scalars.passed in
    let three : 3 * p + 3 - 3 * p ≡ 3 = omega arith in (
      omega (arith, c.scalars-test.true),
      scalars_done c.args.most p c.args.bytes.now (omega (arith, c.scalars-test.true, c.min-whole.ensures)) (omega (arith, c.scalars-test.true, c.min-whole.ensures))
          (λ i. Fits-lt-pow (c.type_inv.bytes i)) c.scalars.invariant.1
          (subst (λ n. let field = take n (drop (3 * p) c.args.bytes.now) in IsScalar (scalar_of_bytes (get_or field 0 0) (get_or field 1 0) (get_or field 2 0)))
          three (c.is_scalar.ensures c.if-is_scalar.true)),
    )
