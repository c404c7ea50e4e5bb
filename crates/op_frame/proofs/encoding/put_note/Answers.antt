use Rattle.std.proofs.Common.{arith}
use Rattle.op_frame.proofs.FieldLemmas.{length-identifiers}
use Rattle.op_frame.proofs.encoding.put_note.Goals as goal

pub put-requires-2 : goal.put-requires-2
put-requires-2 c =
    omega (
      arith,
      c.requires,
      c.put_names.ensures.few,
      length-identifiers c.args.names.now,
      c.put.ensures.len,
      c.put.ensures.capacity,
      c.put_id.ensures.len,
      c.put_id.ensures.capacity,
      c.put_names.ensures.puts.len,
      c.put_names.ensures.puts.capacity,
    )

pub put_body-requires : goal.put_body-requires
put_body-requires c =
    omega (
      arith,
      c.requires,
      c.put_names.ensures.few,
      length-identifiers c.args.names.now,
      c.put.ensures.len,
      c.put.ensures.capacity,
      c.put_id.ensures.len,
      c.put_id.ensures.capacity,
      c.put_names.ensures.puts.len,
      c.put_names.ensures.puts.capacity,
      c.put-2.ensures.len,
      c.put-2.ensures.capacity,
    )
