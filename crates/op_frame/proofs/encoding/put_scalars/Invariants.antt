use Rattle.std.proofs.Common.{take, ◌*◌, ◌++◌, ◌+◌, ◌≡◌, ◌≤◌}
use Rattle.std.specs.Char.{IsScalar}
use Rattle.std.specs.Prelude.{All, flat_map, vec_capacity, vec_len}
use Rattle.origin_model.specs.frames.Frames.{scalar_bytes}
use Rattle.op_frame.proofs.encoding.put_scalars.Given as goal

abbrev pub invariant-loop-ch : goal.invariant-loop-ch
invariant-loop-ch l = record {
  items : l.out.items ≡ l.fn.out.items ++ flat_map scalar_bytes (take l.ch-index l.text);
  len : vec_len l.out ≡ vec_len l.fn.out + 3 * l.ch-index;
  capacity : vec_capacity l.fn.out ≤ vec_capacity l.out;
  scalars : All IsScalar (take l.ch-index l.text);
}
