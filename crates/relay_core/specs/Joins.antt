-- The operations of a frame, as they join a log one after another.
use Rattle.std.specs.Prelude.{◌≡◌, ℕ, Option, Some, None, List, ◌∷◌}
use Rattle.fugue_ids.specs.declared.op.Op.{Op}
use Rattle.origin_model.specs.declared.grammar.Grammar.TheVariants.{Version2}
use Rattle.origin_model.specs.frames.Frames.{IsFrame, frame}
use Rattle.origin_model.specs.relay.Session.{Closes, Taken, log_joined}

-- those that are left join the log too, unless the session was refused with this reply
abbrev pub joined_later : (limit : ℕ) → List (List ℕ) → (cursor : ℕ) → (left : List Op) → Option (List ℕ) → Taken
joined_later limit log cursor left None = log_joined limit log cursor left
joined_later limit log cursor left (Some reply) = record { log = log; next = Closes reply }

-- the operation with this own frame joined, or was refused, whatever operations follow it in its frame
abbrev pub JoinsOne : (limit : ℕ) → (old : List (List ℕ)) → (own : List ℕ) → (new : List (List ℕ)) → Option (List ℕ) → Type 0
JoinsOne limit old own new reply = (op : Op) (cursor : ℕ) (left : List Op) → own ≡ frame op
    → log_joined limit old cursor (op ∷ left) ≡ joined_later limit new cursor left reply

-- the operations joined up to those that are left, or one was refused
abbrev pub JoinsAll : (limit : ℕ) → (old : List (List ℕ)) → (ops : List Op) → (new : List (List ℕ)) → (left : List Op) → Option (List ℕ)
    → Type 0
JoinsAll limit old ops new left reply = (cursor : ℕ) → log_joined limit old cursor ops ≡ joined_later limit new cursor left reply

-- and these operations are those of a frame
pub record JoinsFrame (limit : ℕ) (old : List (List ℕ)) (bytes : List ℕ) (new : List (List ℕ)) (left : List Op)
    (reply : Option (List ℕ)) : Type 0 where
  pub ops : List Op
  pub is_frame : IsFrame Version2 (record { bytes = bytes; ops = ops })
  pub joins : JoinsAll limit old ops new left reply
