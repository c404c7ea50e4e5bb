use Rattle.std.proofs.Common.{take, vec_capacity, ◌++◌, ◌≡◌, ◌≤◌}
use Rattle.op_frame.specs.Headers.{text_scalars}
use Rattle.op_frame.proofs.gather.put_scalars.Given as goal

abbrev pub invariant-loop-place : goal.invariant-loop-place
invariant-loop-place l = record {
  put : l.text.items ≡ l.initial.text.items ++ take l.place (text_scalars l.header.count l.bytes);
  room : vec_capacity l.initial.text ≤ vec_capacity l.text;
}
