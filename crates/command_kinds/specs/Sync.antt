-- The command `sync`: a file's replica tells a relay all that it holds, takes in what the relay answers, and saves what was kept.
use Rattle.std.specs.Prelude.{◌≡◌, ◌⊎◌, ℕ, List, length, Some, IfSome}
use Rattle.fugue_ids.specs.Causes.{Faulted}
use Rattle.fugue_ids.specs.Outs.{Took, TookFront}
use Rattle.fugue_ids.specs.declared.op.Op.{Op}
use Rattle.origin_model.specs.taking.Taking.{Held}
use Rattle.outer_ports.specs.disk.Disks.{DiskView}
use Rattle.outer_ports.specs.wire.Wires.{DialsOnce, WireView, out_of}
use Rattle.relay_sync.specs.Outcomes.{Bad, Cut, Ended, Refused, ReplyComes, ReplyEnd, TooLong, TooMany}
use Rattle.relay_sync.specs.Saying.{SaysToNoOther, request_for}
use Rattle.relay_sync.specs.Syncing.{FitsBytes, HearsNoFurther}
use Rattle.origin_model.specs.edits.State.{State as Replica}
use Rattle.replica_file.specs.declared.load_file.End.{End}
use Rattle.command_kinds.specs.Crashes.{IsFinished}
use Rattle.command_kinds.specs.Files.{FileHolds}
use Rattle.command_kinds.specs.Findings.{Finding, Refuses, Does}
use Rattle.command_kinds.specs.Saving.{OpsSource, Outcome}
use Rattle.command_kinds.specs.Take.{noted_in}
use Rattle.command_kinds.specs.Changes.{Change, WireBlameless}
use Rattle.command_kinds.specs.declared.refusal.Refusal.{Refusal}
use Rattle.command_kinds.specs.declared.refusal.Refusal.TheVariants as refusal
use Rattle.command_kinds.specs.declared.status.Status.{Status}

-- what the wire has left, where it is specified, comes to this end when a replica takes it in
abbrev pub AnswerComes : Replica → WireView → List Op → ReplyEnd → Type 0
AnswerComes replica wire ops end = IfSome wire.left (λ bytes. ReplyComes replica.hold replica.most replica.held bytes ops end)

-- the reply comes to an end that is the cause of this refusal
abbrev pub ReplyRefuses : Replica → WireView → Refusal → Type 0
ReplyRefuses replica wire (refusal.BadReply offset) = (ops : List Op) × AnswerComes replica wire ops (Bad offset)
ReplyRefuses replica wire (refusal.RelayRefused code) = (ops : List Op) × AnswerComes replica wire ops (Refused code)
ReplyRefuses replica wire (refusal.ReplyCutShort offset) = (ops : List Op) × AnswerComes replica wire ops (Cut offset)
ReplyRefuses replica wire refusal.TooLong = (ops : List Op) × AnswerComes replica wire ops TooLong
ReplyRefuses replica wire (refusal.TooMany count) = (count ≡ replica.most) × (ops : List Op) × AnswerComes replica wire ops TooMany
ReplyRefuses replica wire _ = ⊥

-- what a reply gives
abbrev pub ReplyGives : WireView → Replica → Finding Outcome → Type 0
ReplyGives wire replica (Refuses why) = ReplyRefuses replica wire why
ReplyGives wire replica (Does outcome) =
    (ops : List Op) × (cursor : ℕ) × AnswerComes replica wire ops (Ended cursor) × (outcome ≡ noted_in replica ops (Some cursor))

-- the reply to what the replica of a file says: no call on the wire fails where it has room for that
abbrev pub reply : (cursor : ℕ) → DiskView → Change WireView → OpsSource
reply cursor home wire = record {
  Gives = ReplyGives wire.old;
  Specified = (bytes : List ℕ) × (wire.old.left ≡ Some bytes);
  Failed = Faulted wire.old.faults wire.new.faults;
  Sure = (replica : Replica) (end : End) → FileHolds home replica end → FitsBytes (length (request_for cursor replica.held)) wire.old;
}

-- A front of what is held was said, to nobody but the port, which was dialled once and before the first byte was said; all
-- of it, on that connection, where all was done, and then the reply was heard there and nothing after it. A sure wire that
-- has room for it counts no fault.
pub record Speaks (port cursor : ℕ) (held : Held) (wire : Change WireView) (done : Type 0) : Type 0 where
  pub front : TookFront (out_of wire.old) (out_of wire.new) (request_for cursor held)
  pub no_other : SaysToNoOther wire.old wire.new port
  pub whole : done → Took (out_of wire.old) (out_of wire.new) (request_for cursor held)
  pub dialled : done → DialsOnce wire.old wire.new port
  pub heard : done → HearsNoFurther wire.old.left wire.new.left
  pub counts_no_fault : FitsBytes (length (request_for cursor held)) wire.old → wire.new.faults ≡ wire.old.faults

-- the replica of the file spoke, or nothing was said at all
abbrev pub SpeaksFor : (port cursor : ℕ) → DiskView → Change WireView → (done : Type 0) → Type 0
SpeaksFor port cursor home wire done =
    ((wire.new ≡ wire.old) × (done → ⊥))
    ⊎ ((replica : Replica) × (end : End) × FileHolds home replica end × Speaks port cursor replica.held wire done)

-- the wire is left so by `sync`
pub record LeavesWire (port cursor : ℕ) (home : DiskView) (wire : Change WireView) (end : Status) : Type 0 where
  pub speaks : SpeaksFor port cursor home wire (IsFinished end)
  pub blameless : WireBlameless wire end
