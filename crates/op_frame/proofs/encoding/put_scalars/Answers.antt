use Rattle.std.proofs.Common.{List, ap, append_assoc, arith, subst, take, ℕ, ◌++◌, ◌∙◌}
use Rattle.std.specs.Prelude.{flat_map}
use Rattle.std.specs.Char.{IsScalar}
use Rattle.std.proofs.lemmas.List.Elements.{All-more}
use Rattle.origin_model.specs.frames.Frames.{scalar_bytes}
use Rattle.op_frame.proofs.RunFrameLemmas.{scalars_more}
use Rattle.op_frame.proofs.encoding.put_scalars.Goals as goal

pub loop-ch-preserved : goal.loop-ch-preserved
loop-ch-preserved c = record {
  items = c.put_scalar.ensures.puts.items ∙ ap (λ (l : List ℕ). l ++ scalar_bytes c.ch-item.result) c.loop-ch.invariant.items
      ∙ append_assoc c.args.out.now.items (flat_map scalar_bytes (take c.loop-ch.ch-index c.args.text.now)) (scalar_bytes c.ch-item.result)
      ∙ ap (λ (l : List ℕ). c.args.out.now.items ++ l) (scalars_more c.args.text.now c.loop-ch.ch-index c.ch-item.result c.loop-ch-test.true c.ch-item.is);
  len = omega (arith, c.put_scalar.ensures.puts.len, c.loop-ch.invariant.len);
  capacity = omega (arith, c.put_scalar.ensures.puts.capacity, c.loop-ch.invariant.capacity);
  scalars = All-more IsScalar c.args.text.now c.loop-ch.ch-index c.ch-item.result c.loop-ch-test.true c.loop-ch.invariant.scalars
      (subst IsScalar c.ch-item.is c.put_scalar.ensures.scalar);
}
