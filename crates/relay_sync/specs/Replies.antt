-- A relay's reply as it is heard: message by message, each at its last byte.
use Rattle.std.specs.Prelude.{◌≡◌, ℕ, ◌+◌, ◌<◌, ◌≤◌, List, [], ◌∷◌, ◌++◌, length, is_some, true, IfSome, Result, Ok, Err}
use Rattle.std.specs.Int.{from_be_bytes, w32}
use Rattle.std.specs.Io.KnownBytes.{prepend_known}
use Rattle.fugue_ids.specs.Causes.{Faulted}
use Rattle.fugue_ids.specs.declared.limits.TheConstants.{STREAM_LIMIT}
use Rattle.fugue_ids.specs.declared.op.Op.{Op}
use Rattle.origin_model.specs.declared.grammar.Grammar.TheVariants.{Version2}
use Rattle.origin_model.specs.frames.Frames.{IsFrame}
use Rattle.origin_model.specs.relay.Session.{refusal_message}
use Rattle.op_frame.specs.FrameFronts.{IsFrameOf}
use Rattle.outer_ports.specs.wire.Wires.{WireIsSpecified, WireView}
use Rattle.relay_sync.specs.declared.syncing.SyncFault.{SyncFault}
use Rattle.relay_sync.specs.declared.syncing.SyncFault.TheVariants.{BadReply, CutShort, NoMemory, RelayRefused, TooLong, TooMany, WireFault}

-- a message of a reply
pub data Message : Type 0 where
  -- a frame of the log, with the operations that it stands for
  Operations : List Op → Message
  -- the reply is over: the length of the log
  End : ℕ → Message
  -- the relay refused, with this code
  Refusal : ℕ → Message

-- the first byte of the message that ends a reply
abbrev pub ending : ℕ
ending = 0x55

-- a code is 1, 2 or 3
abbrev pub IsCode : ℕ → Type 0
IsCode code = (1 ≤ code) × (code ≤ 3)

-- a frame; or 55 and a number; or 58 and a code
abbrev pub IsMessage : Message → List ℕ → Type 0
IsMessage (Operations ops) bytes = IsFrame Version2 (record { bytes = bytes; ops = ops })
IsMessage (End count) bytes = (number : List ℕ) × (length number ≡ 4) × (count ≡ from_be_bytes w32 number) × (bytes ≡ ending ∷ number)
IsMessage (Refusal code) bytes = IsCode code × (bytes ≡ refusal_message code)

-- the bytes are a proper front of a message, as no bytes are
pub record IsMessageFront (bytes : List ℕ) : Type 0 where
  pub message : Message
  pub whole : List ℕ
  pub is_message : IsMessage message whole
  pub more : List ℕ
  pub lacks : 0 < length more
  pub front : whole ≡ bytes ++ more

-- with their last byte the bytes became neither a message nor a front of one
pub record IsBroken (bytes : List ℕ) : Type 0 where
  pub before : List ℕ
  pub byte : ℕ
  pub bytes_are : bytes ≡ before ++ byte ∷ []
  pub was_front : IsMessageFront before
  pub no_message : (message : Message) → IsMessage message bytes → ⊥
  pub no_front : IsMessageFront bytes → ⊥

-- no call on the wire fails but for want of room
abbrev pub IsSureWire : WireView → Type 0
IsSureWire wire = is_some wire.room ≡ true

-- these bytes were heard, and nothing else happened to the wire
pub record HeardBytes (old new : WireView) (bytes : List ℕ) : Type 0 where
  pub heard : old.left ≡ prepend_known bytes new.left
  pub said : new.said ≡ old.said
  pub dials : new.dials ≡ old.dials
  pub room : new.room ≡ old.room
  pub later : old.faults ≤ new.faults
  pub counts_no_fault : IsSureWire old → new.faults ≡ old.faults

-- nothing is left to hear
abbrev pub IsOver : WireView → Type 0
IsOver wire = IfSome wire.left (λ left. left ≡ [])

-- why the message at this place goes no further than these bytes
abbrev pub StopsIn : SyncFault → (old new : WireView) → (place : ℕ) → List ℕ → Type 0
StopsIn WireFault old new place bytes = IsMessageFront bytes × Faulted old.faults new.faults × (IsSureWire old → ⊥)
StopsIn (BadReply at) old new place bytes = (at ≡ place) × IsBroken bytes × (place + length bytes ≤ STREAM_LIMIT)
StopsIn (CutShort at) old new place bytes = (at ≡ place) × IsMessageFront bytes × IsOver new × (place + length bytes ≤ STREAM_LIMIT)
StopsIn TooLong old new place bytes =
    (front : List ℕ) × (byte : ℕ) × (bytes ≡ front ++ byte ∷ []) × IsMessageFront front × (place + length front ≡ STREAM_LIMIT)
StopsIn NoMemory old new place bytes = ⊥
StopsIn (RelayRefused code) old new place bytes = ⊥
StopsIn (TooMany most) old new place bytes = ⊥

-- a message of which some bytes were heard before was heard up to a fault
pub record StopsHearing (fault : SyncFault) (old new : WireView) (place : ℕ) (before : List ℕ) : Type 0 where
  pub bytes : List ℕ
  pub hears : HeardBytes old new bytes
  pub stops : StopsIn fault old new place (before ++ bytes)

-- the rest of a message was heard
pub record Whole (message : Message) (old new : WireView) (place heard : ℕ) (before : List ℕ) : Type 0 where
  pub bytes : List ℕ
  pub hears : HeardBytes old new bytes
  pub is_message : IsMessage message (before ++ bytes)
  pub count : heard ≡ place + length (before ++ bytes)
  pub within : heard ≤ STREAM_LIMIT

-- the rest of a frame was heard, whose bytes are these
pub record WholeFrame (frame : List ℕ) (old new : WireView) (place heard : ℕ) (before : List ℕ) : Type 0 where
  pub is_frame : IsFrameOf Version2 frame
  pub bytes : List ℕ
  pub hears : HeardBytes old new bytes
  pub split : frame ≡ before ++ bytes
  pub count : heard ≡ place + length frame
  pub within : heard ≤ STREAM_LIMIT

-- On a wire that is specified, the count of faults rises only where the wire is blamed: no call that failed is passed over,
-- and none is reported as another fault.
pub record WireRisesFor (blamed : Type 0) (old new : WireView) : Type 0 where
  pub tells : WireIsSpecified old → WireIsSpecified new
  pub specified_no_fault : WireIsSpecified old → (blamed → ⊥) → new.faults ≡ old.faults

-- the answer blames the wire
abbrev pub IsWireFault : {T : Type 0} → Result T SyncFault → Type 0
IsWireFault (Ok x) = ⊥
IsWireFault (Err fault) = fault ≡ WireFault
