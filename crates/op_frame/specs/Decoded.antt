-- What a whole frame stands for, and its operations, of which some are given already.
use Rattle.std.specs.Prelude.{◌≡◌, ℕ, Option, Some, None, List, [], ◌∷◌}
use Rattle.fugue_ids.specs.declared.op.Op.{Op}
use Rattle.origin_model.specs.frames.Frames.{HasFrame, frame}
use Rattle.op_frame.specs.Headers.{HeaderIs}
use Rattle.op_frame.specs.declared.frame_ops.Decoded.{Decoded}
use Rattle.op_frame.specs.declared.frame_ops.Decoded.TheVariants.{Single, Run}

-- the frame is this operation's own, or that of a run
abbrev pub IsDecoded : Decoded → List ℕ → Type 0
IsDecoded (Single op) bytes = HasFrame op × (bytes ≡ frame op)
IsDecoded (Run header) bytes = HeaderIs header bytes

-- the operation, where there is one
abbrev pub single_ops : Option Op → List Op
single_ops None = []
single_ops (Some op) = op ∷ []

-- the first of the operations was given, where there was one
abbrev pub GivesFirstOf : Option Op → (old new : List Op) → Type 0
GivesFirstOf None old new = (old ≡ []) × (new ≡ [])
GivesFirstOf (Some op) old new = old ≡ op ∷ new
