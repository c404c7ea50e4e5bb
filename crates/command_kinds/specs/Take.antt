-- The commands that take operations into a file: `take` those of the input, and `merge` those of another file.
use Rattle.std.specs.Prelude.{◌≡◌, ℕ, List, ◌++◌, length, true, Option, Some, None}
use Rattle.fugue_ids.specs.Causes.{Faulted}
use Rattle.fugue_ids.specs.declared.op.Op.{Op}
use Rattle.origin_model.specs.operations.History.{accepted}
use Rattle.origin_model.specs.taking.Taking.{MeetsNoLimit, Held, held_from, kept_from, no_counts, tally_from}
use Rattle.origin_model.specs.declared.taking.Tally.{Tally}
use Rattle.outer_ports.specs.Sources.{SourceView}
use Rattle.outer_ports.specs.disk.Disks.{DiskView}
use Rattle.origin_model.specs.edits.State.{State as Replica}
use Rattle.command_kinds.specs.Counts.{counts_text, status_by}
use Rattle.command_kinds.specs.Files.{FileFinds}
use Rattle.command_kinds.specs.Findings.{Finding, Refuses, Does}
use Rattle.command_kinds.specs.Input.{StreamFound}
use Rattle.command_kinds.specs.Saving.{OpsSource, Outcome}
use Rattle.command_kinds.specs.Changes.{Change, HasDiskRoom, IsSpecified}
use Rattle.command_kinds.specs.declared.refusal.Refusal.TheVariants as refusal

-- what became of operations that a replica takes in, and how many wait then
abbrev pub counts_in : Replica → List Op → Tally
counts_in replica ops = tally_from replica.hold replica.most replica.held ops no_counts

-- how many operations wait in the replica after these were taken in
abbrev pub waiting_in : Replica → List Op → ℕ
waiting_in replica ops = length (held_from replica.hold replica.most replica.held ops).waiting

-- what comes of operations that a replica takes in, perhaps from a relay whose log ends there: those that are kept are saved
abbrev pub noted_in : Replica → List Op → (cursor : Option ℕ) → Outcome
noted_in replica ops cursor = record {
  saved = kept_from replica.hold replica.most replica.held ops;
  held = held_from replica.hold replica.most replica.held ops;
  line = counts_text (counts_in replica ops) (waiting_in replica ops) cursor;
  status = status_by (counts_in replica ops) (waiting_in replica ops);
}

-- the outcome of taking operations in that came from no relay
abbrev pub taken_in : Replica → List Op → Outcome
taken_in replica ops = noted_in replica ops None

-- what a stream gives
abbrev pub StreamGives : SourceView → Replica → Finding Outcome → Type 0
StreamGives input replica (Refuses why) = StreamFound replica input (Refuses why)
StreamGives input replica (Does outcome) = (ops : List Op) × StreamFound replica input (Does ops) × (outcome ≡ taken_in replica ops)

-- a stream that is read from a source, as what gives the operations
abbrev pub stream : Change SourceView → OpsSource
stream input = record {
  Gives = StreamGives input.old;
  Specified = (bytes : List ℕ) × (input.old.left ≡ Some bytes);
  Failed = Faulted input.old.faults input.new.faults;
  Sure = input.old.sure ≡ true;
}

-- all that a replica holds: the accepted operations in order, and then the waiting ones
abbrev pub all_held_ops : Held → List Op
all_held_ops held = accepted held.history ++ held.waiting

-- one of the operations is one too many
abbrev pub IsOneTooMany : Replica → List Op → Type 0
IsOneTooMany replica ops = MeetsNoLimit replica.hold replica.most replica.held ops → ⊥

-- what another replica gives: all that it holds is taken in, or one of it is one too many
abbrev pub ReplicaGives : (other : Replica) → Replica → Finding Outcome → Type 0
ReplicaGives other replica (Refuses why) = (why ≡ refusal.TooMany replica.most) × IsOneTooMany replica (all_held_ops other.held)
ReplicaGives other replica (Does outcome) =
    MeetsNoLimit replica.hold replica.most replica.held (all_held_ops other.held) × (outcome ≡ taken_in replica (all_held_ops other.held))

-- what another file gives: it is refused, or what its replica gives
abbrev pub FileGives : DiskView → Replica → Finding Outcome → Type 0
FileGives guest replica found = FileFinds (λ other end. ReplicaGives other replica) guest found

-- the other replica alone, which is no object of the outside
abbrev pub all_held_by : (other : Replica) → OpsSource
all_held_by other = record { Gives = ReplicaGives other; Specified = Unit {0}; Failed = ⊥; Sure = Unit {0} }

-- another manuscript's file, as what gives the operations
abbrev pub other_file : Change DiskView → OpsSource
other_file guest = record {
  Gives = FileGives guest.old;
  Specified = IsSpecified guest.old;
  Failed = Faulted guest.old.faults guest.new.faults;
  Sure = HasDiskRoom 1 guest.old;
}
