use Rattle.std.proofs.Common.{take}
use Rattle.std.specs.Prelude.{All}
use Rattle.origin_model.specs.frames.Frames.{IsIdentifier}
use Rattle.op_frame.proofs.framed.identifiers.Given as goal

abbrev pub invariant-loop-id : goal.invariant-loop-id
invariant-loop-id l = All IsIdentifier (take l.id-index l.ids)
