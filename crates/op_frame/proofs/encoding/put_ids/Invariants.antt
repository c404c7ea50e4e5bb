use Rattle.std.proofs.Common.{take, ◌*◌, ◌++◌, ◌+◌, ◌≡◌, ◌≤◌}
use Rattle.std.specs.Prelude.{flat_map, vec_capacity, vec_len}
use Rattle.origin_model.specs.frames.Frames.{id_bytes}
use Rattle.op_frame.proofs.encoding.put_ids.Given as goal

abbrev pub invariant-loop-id : goal.invariant-loop-id
invariant-loop-id l = record {
  items : l.out.items ≡ l.fn.out.items ++ flat_map id_bytes (take l.id-index l.ids);
  len : vec_len l.out ≡ vec_len l.fn.out + 8 * l.id-index;
  capacity : vec_capacity l.fn.out ≤ vec_capacity l.out;
}
