use Rattle.std.proofs.Common.{◌≡◌, ◌<◌, ◌+◌, ◌-◌, ◌*◌, List, length}
use Rattle.std.specs.Prelude.{Some, true, vec_capacity}
use Rattle.fugue_ids.specs.declared.op.Op.{Op}
use Rattle.replica_file.specs.Loading.{Feeds, CanTake, IsSameButHeld}
use Rattle.replica_file.specs.Pieces.{IsReading}
use Rattle.replica_file.proofs.piece.take_piece.Given as goal

abbrev pub invariant-frames : goal.invariant-frames
invariant-frames l = record {
  ops : List Op;
  reading : IsReading l.fn.bytes.items ops l.piece.reader (record { left = Some l.piece.source.left; faults = 0; sure = true });
  feeds : Feeds l.fn.loading.finds_place l.fn.loading.replica l.loading.finds_place l.loading.replica ops;
  ready : CanTake l.loading.replica;
  same : IsSameButHeld l.fn.loading.replica l.loading.replica;
  room : 0 < vec_capacity l.piece.text;
  by_grammar : l.piece.reader.grammar ≡ l.fn.grammar;
  len : l.piece.len ≡ length l.fn.bytes.items;
}

abbrev pub decreases-frames : goal.decreases-frames
decreases-frames l = l.piece.reader.limit + 3 * length l.piece.reader.todo - l.piece.reader.offset
