-- An exchange with a relay: a replica says what it holds, hears the reply, and takes in its operations as they come.
use Rattle.std.specs.Prelude.{◌≡◌, ◌≢◌, ◌⊎◌, ◌+◌, ◌*◌, ◌≤◌, ℕ, All, List, [], ◌∷◌, ◌++◌, flat_map, length, Option, Some, None, Result, Err}
use Rattle.std.specs.Io.KnownBytes.{prepend_known}
use Rattle.fugue_ids.specs.Causes.{Faulted}
use Rattle.fugue_ids.specs.Outs.{Took, TookFront}
use Rattle.fugue_ids.specs.declared.limits.TheConstants.{GREATEST_HOLD, STREAM_LIMIT}
use Rattle.fugue_ids.specs.declared.op.Op.{Op}
use Rattle.origin_model.specs.declared.grammar.Grammar.TheVariants.{Version2}
use Rattle.origin_model.specs.frames.Frames.{Framed, IsFrame}
use Rattle.origin_model.specs.taking.Taking.{Held, IsSettled, TooMany as AnswersTooMany, answer}
use Rattle.outer_ports.specs.wire.Wires.{DialsOnce, WireView, out_of}
use Rattle.replica_core.specs.Keeping.{TakesIn, TakesPartly, OpsTaking}
use Rattle.replica_core.specs.Answering.{total}
use Rattle.replica_core.specs.declared.keeping.FeedFault.{FeedFault}
use Rattle.replica_core.specs.declared.keeping.FeedFault.TheVariants as feed_fault
use Rattle.relay_sync.specs.Replies.{End, HeardBytes, IsMessage, Operations, Refusal, StopsIn, Whole}
use Rattle.relay_sync.specs.Saying.{SaysToNoOther, request_for}
use Rattle.relay_sync.specs.declared.syncing.SyncFault.{SyncFault}
use Rattle.relay_sync.specs.declared.syncing.SyncFault.TheVariants.{NoMemory, RelayRefused, TooMany, WireFault}

-- how many operations were counted or wait
abbrev pub count_so_far : OpsTaking → ℕ
count_so_far now = total now.counts + length now.replica.held.waiting

-- more operations can be taken in and counted
pub record CanHear (now : OpsTaking) (heard : ℕ) : Type 0 where
  pub settled : IsSettled now.replica.held
  -- each operation of a frame has more than one byte
  pub few : 2 * count_so_far now ≤ heard + 2 * GREATEST_HOLD

-- the operations of a frame were taken in
pub record TakesInFrame (before after : OpsTaking) (frame : List ℕ) : Type 0 where
  pub ops : List Op
  pub is_message : IsMessage (Operations ops) frame
  pub takes : TakesIn before after ops
  pub settled : IsSettled after.replica.held
  pub few : 2 * count_so_far after ≤ 2 * count_so_far before + length frame

-- those before this one were
pub record HearsUpTo (op : Op) (before after : OpsTaking) (frame : List ℕ) : Type 0 where
  pub front : List Op
  pub more : List Op
  pub is_message : IsMessage (Operations (front ++ op ∷ more)) frame
  pub takes : TakesIn before after front

-- one of them is one too many, or memory ran out for it
abbrev pub TakesNotAll : FeedFault → (before after : OpsTaking) → (frame : List ℕ) → Type 0
TakesNotAll (feed_fault.TooMany most) before after frame =
    (op : Op) × HearsUpTo op before after frame × (most ≡ after.replica.most)
    × (answer after.replica.hold after.replica.most after.replica.held op ≡ AnswersTooMany)
TakesNotAll feed_fault.NoMemory before after frame =
    (op : Op) × (middle : OpsTaking) × HearsUpTo op before middle frame × ((after ≡ middle) ⊎ TakesPartly middle after op)

-- the reply was heard to its end, and its operations were taken in
pub record HearsReply (old new : WireView) (before after : OpsTaking) (count : ℕ) : Type 0 where
  pub found : List Framed
  pub are_frames : All (IsFrame Version2) found
  pub last : List ℕ
  pub ends : IsMessage (End count) last
  pub hears : HeardBytes old new (flat_map (λ framed. framed.bytes) found ++ last)
  pub within : length (flat_map (λ framed. framed.bytes) found ++ last) ≤ STREAM_LIMIT
  pub takes : TakesIn before after (flat_map (λ framed. framed.ops) found)

-- why no more was heard, after the frames whose operations were taken in: the bytes there decide
abbrev pub ReplyStopsFor : SyncFault → (old new : WireView) → (before after : OpsTaking) → (place : ℕ) → List ℕ → Type 0
ReplyStopsFor (RelayRefused code) old new before after place bytes =
    (after ≡ before) × IsMessage (Refusal code) bytes × (place + length bytes ≤ STREAM_LIMIT)
ReplyStopsFor (TooMany most) old new before after place bytes =
    TakesNotAll (feed_fault.TooMany most) before after bytes × (place + length bytes ≤ STREAM_LIMIT)
ReplyStopsFor NoMemory old new before after place bytes =
    TakesNotAll feed_fault.NoMemory before after bytes × (place + length bytes ≤ STREAM_LIMIT)
ReplyStopsFor fault old new before after place bytes = (after ≡ before) × StopsIn fault old new place bytes

-- the reply was heard up to a fault, and the operations before it were taken in
pub record HearsPartly (fault : SyncFault) (old new : WireView) (before after : OpsTaking) : Type 0 where
  pub found : List Framed
  pub are_frames : All (IsFrame Version2) found
  pub bytes : List ℕ
  pub hears : HeardBytes old new (flat_map (λ framed. framed.bytes) found ++ bytes)
  pub middle : OpsTaking
  pub takes : TakesIn before middle (flat_map (λ framed. framed.ops) found)
  pub stops : ReplyStopsFor fault old new middle after (length (flat_map (λ framed. framed.bytes) found)) bytes

-- of these bytes a reply was heard up to the message that ends it, and nothing after it
pub record HearsNoFurther (old new : Option (List ℕ)) : Type 0 where
  pub found : List Framed
  pub are_frames : All (IsFrame Version2) found
  pub count : ℕ
  pub last : List ℕ
  pub ends : IsMessage (End count) last
  pub heard : old ≡ prepend_known (flat_map (λ framed. framed.bytes) found ++ last) new

-- the port was dialled, once and before all else, and all that the replica holds was said to it
pub record SaysRequest (old new : WireView) (port cursor : ℕ) (held : Held) : Type 0 where
  pub dialled : DialsOnce old new port
  pub said : Took (out_of old) (out_of new) (request_for cursor held)
  pub left : new.left ≡ old.left
  pub later : old.faults ≤ new.faults

-- why not all of it was said: for lack of memory nothing was done
abbrev pub SaysNotAll : SyncFault → (old new : WireView) → Type 0
SaysNotAll WireFault old new = Faulted old.faults new.faults
SaysNotAll NoMemory old new = new ≡ old
SaysNotAll fault old new = ⊥

-- the replica said what it holds, and took in the reply
pub record SyncsReplica (old new : WireView) (before after : OpsTaking) (port cursor count : ℕ) : Type 0 where
  pub asked : WireView
  pub asks : SaysRequest old asked port cursor before.replica.held
  pub hears : HearsReply asked new before after count

-- a front of it was said to the port, and nothing was heard
pub record FailsToAsk (fault : SyncFault) (old new : WireView) (before after : OpsTaking) (port cursor : ℕ) : Type 0 where
  pub said : TookFront (out_of old) (out_of new) (request_for cursor before.replica.held)
  pub no_other : SaysToNoOther old new port
  pub left : new.left ≡ old.left
  pub cause : SaysNotAll fault old new
  pub same : after ≡ before

-- it was said, and the reply was heard up to a fault
pub record FailsToHear (fault : SyncFault) (old new : WireView) (before after : OpsTaking) (port cursor : ℕ) : Type 0 where
  pub asked : WireView
  pub asks : SaysRequest old asked port cursor before.replica.held
  pub hears : HearsPartly fault asked new before after

-- an exchange failed: as it asked, or as it heard the reply
abbrev pub SyncFails : SyncFault → (old new : WireView) → (before after : OpsTaking) → (port cursor : ℕ) → Type 0
SyncFails fault old new before after port cursor =
    FailsToAsk fault old new before after port cursor ⊎ FailsToHear fault old new before after port cursor

-- calls are sure, and so many bytes fit
abbrev pub FitsBytes : ℕ → WireView → Type 0
FitsBytes count wire = (room : ℕ) × (wire.room ≡ Some room) × (count ≤ room)

-- a call on the wire is blamed only where one failed, and none fails on a sure wire which what is said fits
pub record BlamesWire {T : Type 0} (said : ℕ) (old new : WireView) (result : Result T SyncFault) : Type 0 where
  pub later : old.faults ≤ new.faults
  pub faulted : result ≡ Err WireFault → Faulted old.faults new.faults
  pub counts_no_fault : FitsBytes said old → new.faults ≡ old.faults
  pub sure : FitsBytes said old → result ≢ Err WireFault

-- one message was heard: a frame, whose operations were taken in
pub record HearsMessage (old new : WireView) (before after : OpsTaking) (place heard : ℕ) : Type 0 where
  pub ops : List Op
  pub hears : Whole (Operations ops) old new place heard []
  pub takes : TakesIn before after ops
  pub ready : CanHear after heard

-- or the end of the reply
abbrev pub HearsOne : (old new : WireView) → (before after : OpsTaking) → (place heard : ℕ) → Option ℕ → Type 0
HearsOne old new before after place heard None = HearsMessage old new before after place heard
HearsOne old new before after place heard (Some count) = Whole (End count) old new place heard [] × (after ≡ before)

-- or a fault was met
pub record StopsHearingAt (fault : SyncFault) (old new : WireView) (before after : OpsTaking) (place : ℕ) : Type 0 where
  pub bytes : List ℕ
  pub hears : HeardBytes old new bytes
  pub stops : ReplyStopsFor fault old new before after place bytes
