-- What a reply comes to whose operations are taken in, from a state and within limits: how it ends, and what was taken in until then.
use Rattle.std.specs.Prelude.{◌≡◌, ◌↔◌, ℕ, ◌<◌, ◌≤◌, All, IfSome, List, ◌++◌, flat_map, length, take, Option, Some, None, Result, Ok, Err}
use Rattle.fugue_ids.specs.declared.limits.TheConstants.{STREAM_LIMIT}
use Rattle.fugue_ids.specs.declared.op.Op.{Op}
use Rattle.origin_model.specs.declared.grammar.Grammar.TheVariants.{Version2}
use Rattle.origin_model.specs.frames.Frames.{Framed, IsFrame}
use Rattle.origin_model.specs.taking.Taking.{Held, MeetsNoLimit}
use Rattle.op_frame.specs.IntakeOutcomes.{MeetsTooMany}
use Rattle.outer_ports.specs.wire.Wires.{WireView}
use Rattle.replica_core.specs.Keeping.{TakesIn, OpsTaking}
use Rattle.relay_sync.specs.Replies.{End, IsMessage, IsMessageFront, Message, Refusal}
use Rattle.relay_sync.specs.Syncing.{HearsPartly, HearsReply}
use Rattle.relay_sync.specs.declared.syncing.SyncFault.{SyncFault}
use Rattle.relay_sync.specs.declared.syncing.Synced.{Synced}
use Rattle.relay_sync.specs.declared.syncing.SyncFault.TheVariants as sync_fault

-- how a reply ends
pub data ReplyEnd : Type 0 where
  -- by the message that ends it, with the length of the log
  Ended : ℕ → ReplyEnd
  -- by a refusal, with its code
  Refused : ℕ → ReplyEnd
  -- at a place where the bytes are no message, however they go on
  Bad : ℕ → ReplyEnd
  -- at the place of a message that doesn't come, or not whole
  Cut : ℕ → ReplyEnd
  -- the reply goes on past its limit, and up to there it has neither an end nor a fault
  TooLong : ReplyEnd
  -- one operation more came than can be held
  TooMany : ReplyEnd

-- the message is a front of the bytes
pub record BeginsBytes (message : Message) (bytes : List ℕ) : Type 0 where
  pub whole : List ℕ
  pub is_message : IsMessage message whole
  pub behind : List ℕ
  pub split : bytes ≡ whole ++ behind

-- no message is a front of the bytes, and they are no front of a message
pub record IsNoMessage (bytes : List ℕ) : Type 0 where
  pub none_begins : (message : Message) → BeginsBytes message bytes → ⊥
  pub no_front : IsMessageFront bytes → ⊥

-- How the rest after the frames ends a reply of so many bytes whose operations all find their place. The rest goes up
-- to the limit, and what stands after a message there counts for nothing.
abbrev pub EndsReply : (size place : ℕ) → List ℕ → ReplyEnd → Type 0
EndsReply size place rest (Ended count) = BeginsBytes (End count) rest
EndsReply size place rest (Refused code) = BeginsBytes (Refusal code) rest
EndsReply size place rest (Bad at) = (at ≡ place) × IsNoMessage rest
EndsReply size place rest (Cut at) = (at ≡ place) × (size ≤ STREAM_LIMIT) × IsMessageFront rest
EndsReply size place rest TooLong = (STREAM_LIMIT < size) × IsMessageFront rest
EndsReply size place rest TooMany = ⊥

-- the operations of the reply's frames, and how the rest after these ends it
pub record ReadsReply (bytes : List ℕ) (ops : List Op) (end : ReplyEnd) : Type 0 where
  pub found : List Framed
  pub are_frames : All (IsFrame Version2) found
  pub ops_are : ops ≡ flat_map (λ framed. framed.ops) found
  pub rest : List ℕ
  pub split : take STREAM_LIMIT bytes ≡ flat_map (λ framed. framed.bytes) found ++ rest
  pub ends : EndsReply (length bytes) (length (flat_map (λ framed. framed.bytes) found)) rest end

-- all operations of the reply's frames are taken in, or those before the first that is one too many, be it inside of a run
abbrev pub EndsTaking : (hold most : ℕ) (start : Held) → List ℕ → List Op → ReplyEnd → Type 0
EndsTaking hold most start bytes ops TooMany = MeetsTooMany Version2 hold most start (take STREAM_LIMIT bytes) ops
EndsTaking hold most start bytes ops end = ReadsReply bytes ops end

-- the bytes come to this end, and the operations were taken in before it
pub record ReplyComes (hold most : ℕ) (start : Held) (bytes : List ℕ) (ops : List Op) (end : ReplyEnd) : Type 0 where
  pub has_place : MeetsNoLimit hold most start ops
  pub ends : EndsTaking hold most start bytes ops end

-- the same, and what a replica that takes the operations in comes to
pub record HearsTo (bytes : List ℕ) (before after : OpsTaking) (end : ReplyEnd) : Type 0 where
  pub ops : List Op
  pub comes : ReplyComes before.replica.hold before.replica.most before.replica.held bytes ops end
  pub takes : TakesIn before after ops

-- the end that a fault tells, where the bytes decide it
abbrev pub reply_end_of : SyncFault → Option ReplyEnd
reply_end_of (sync_fault.BadReply at) = Some (Bad at)
reply_end_of (sync_fault.CutShort at) = Some (Cut at)
reply_end_of (sync_fault.RelayRefused code) = Some (Refused code)
reply_end_of sync_fault.TooLong = Some TooLong
reply_end_of (sync_fault.TooMany most) = Some TooMany
reply_end_of sync_fault.WireFault = None
reply_end_of sync_fault.NoMemory = None

-- what was heard of bytes that are specified
abbrev pub HeardTo : Option (List ℕ) → (before after : OpsTaking) → ReplyEnd → Type 0
HeardTo specified before after end = IfSome specified (λ bytes. HearsTo bytes before after end)

-- the same up to a fault
abbrev pub HeardUpTo : SyncFault → Option (List ℕ) → (before after : OpsTaking) → Type 0
HeardUpTo fault specified before after = IfSome (reply_end_of fault) (HeardTo specified before after)

-- the answer of an exchange whose reply comes to an end, with what was taken in until then
abbrev pub sync_answer : (after : OpsTaking) → ReplyEnd → Result Synced SyncFault
sync_answer after (Ended count) = Ok (record { tally = after.counts; cursor = count })
sync_answer after (Refused code) = Err (sync_fault.RelayRefused code)
sync_answer after (Bad at) = Err (sync_fault.BadReply at)
sync_answer after (Cut at) = Err (sync_fault.CutShort at)
sync_answer after TooLong = Err sync_fault.TooLong
sync_answer after TooMany = Err (sync_fault.TooMany after.replica.most)

-- the reply's bytes decide such an answer: it is no fault of the wire, and no allocation failure
abbrev pub IsByReply : Result Synced SyncFault → Type 0
IsByReply (Err sync_fault.WireFault) = ⊥
IsByReply (Err sync_fault.NoMemory) = ⊥
IsByReply result = Unit {0}

-- the bytes come to the end that is answered so
pub record AnswerIs (before : OpsTaking) (bytes : List ℕ) (answer : Result Synced SyncFault) : Type 0 where
  pub after : OpsTaking
  pub end : ReplyEnd
  pub comes : HearsTo bytes before after end
  pub answer_is : answer ≡ sync_answer after end

-- each answer comes exactly where the bytes of the reply say so, but for a fault of the wire and an allocation failure
abbrev pub AnswersByReply : Result Synced SyncFault → (before : OpsTaking) → List ℕ → Type 0
AnswersByReply result before bytes = IsByReply result → (answer : Result Synced SyncFault) → IsByReply answer
    → (result ≡ answer) ↔ AnswerIs before bytes answer

-- all bytes come to exactly one end, and what is heard of them is what they come to
pub record RepliesComeOnce : Type 0 where
  pub one : (hold most : ℕ) (start : Held) (bytes : List ℕ) (ops others : List Op) (end other : ReplyEnd)
      → ReplyComes hold most start bytes ops end → ReplyComes hold most start bytes others other → (ops ≡ others) × (end ≡ other)
  pub some : (hold most : ℕ) (start : Held) (bytes : List ℕ) → (ops : List Op) × (end : ReplyEnd) × ReplyComes hold most start bytes ops end
  pub heard : (old new : WireView) (before after : OpsTaking) (count : ℕ) → HearsReply old new before after count
      → HeardTo old.left before after (Ended count)
  pub up_to : (fault : SyncFault) (old new : WireView) (before after : OpsTaking) → HearsPartly fault old new before after
      → HeardUpTo fault old.left before after
  pub same : (bytes : List ℕ) (before after others : OpsTaking) (end other : ReplyEnd) → HearsTo bytes before after end
      → HearsTo bytes before others other
      → (after ≡ others) × (end ≡ other)
