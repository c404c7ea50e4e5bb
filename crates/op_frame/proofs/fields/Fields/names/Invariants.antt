use Rattle.std.proofs.Common.{length, take, ◌++◌, ◌-◌, ◌≡◌, ◌≤◌}
use Rattle.std.specs.Prelude.{All, flat_map}
use Rattle.origin_model.specs.frames.Frames.{IsIdentifier, id_bytes}
use Rattle.op_frame.specs.FrameFronts.{IsIdentifierBytes, Several}
use Rattle.op_frame.proofs.fields.Fields.names.Given as goal

abbrev pub invariant-loop-place : goal.invariant-loop-place
invariant-loop-place l = record {
  few : l.count ≤ 3;
  room : length l.ids ≡ 3;
  named : All IsIdentifier (take l.place l.ids);
  split : l.initial.self.rest.now ≡ flat_map id_bytes (take l.place l.ids) ++ l.self.rest.now;
  due : Several (l.count - l.place) IsIdentifierBytes (λ rest. Unit {0}) l.self.rest.now;
}
