-- What a replica says to a relay.
use Rattle.std.specs.Prelude.{◌≡◌, ◌⊎◌, ℕ, List, ◌∷◌, ◌++◌, Result, OnOk}
use Rattle.std.specs.Int.{to_be_bytes, w32}
use Rattle.fugue_ids.specs.Outs.{WritesBytes}
use Rattle.origin_model.specs.frames.Framings.{frames}
use Rattle.origin_model.specs.operations.History.{accepted}
use Rattle.origin_model.specs.relay.Session.{closing, greeting}
use Rattle.origin_model.specs.taking.Taking.{Held}
use Rattle.outer_ports.specs.wire.Wires.{DialsOnce, WireView, out_of}

-- a greeting with the cursor, the frames of the accepted operations in their order, those of the waiting ones, and the closing byte
abbrev pub request_for : ℕ → Held → List ℕ
request_for cursor held = greeting ∷ to_be_bytes w32 cursor ++ frames (accepted held.history) ++ frames held.waiting ++ closing

-- a text went out on the wire, whole or up to a fault
pub record SaysText {E T : Type 0} (old new : WireView) (result : Result T E) (text : List ℕ) : Type 0 where
  pub writes : WritesBytes (out_of old) (out_of new) result text
  pub dials : new.dials ≡ old.dials
  pub left : new.left ≡ old.left

-- the port was dialled once, before all that was said, or no port was and nothing was said
abbrev pub SaysToNoOther : (old new : WireView) → (port : ℕ) → Type 0
SaysToNoOther old new port = DialsOnce old new port ⊎ ((new.dials ≡ old.dials) × (new.said ≡ old.said))

-- a text went out, whole or up to a fault, to whoever listens on the port, which was dialled once before that, and to no other
pub record SaysTo {E T : Type 0} (old new : WireView) (result : Result T E) (port : ℕ) (text : List ℕ) : Type 0 where
  pub writes : WritesBytes (out_of old) (out_of new) result text
  pub dialled : OnOk result (DialsOnce old new port)
  pub no_other : SaysToNoOther old new port
  pub left : new.left ≡ old.left
