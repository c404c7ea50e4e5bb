-- The file of a replica: what a command finds in it, and what it leaves there.
use Rattle.std.specs.Prelude.{◌≡◌, ◌⊎◌, ℕ, List, ◌++◌, Option, Err, IfSome, option_map}
use Rattle.fugue_ids.specs.Causes.{Faulted}
use Rattle.fugue_ids.specs.declared.limits.TheConstants.{MOST_OPERATIONS}
use Rattle.fugue_ids.specs.declared.op.Op.{Op}
use Rattle.origin_model.specs.files.Image.{Content, HasImage, Holds}
use Rattle.outer_ports.specs.disk.Disks.{DiskView}
use Rattle.outer_ports.specs.disk.Moments.{History, LeavesOnly, LeavesOnlyTo, MayLeave, past_after_step, history_after_step}
use Rattle.outer_ports.specs.disk.States.{IsHonest, at_rest, durable}
use Rattle.origin_model.specs.edits.State.{State as Replica}
use Rattle.replica_file.specs.Load.{LoadAnswerIs, Loads}
use Rattle.replica_file.specs.declared.load_file.End.{End}
use Rattle.replica_file.specs.declared.load_file.LoadFault.TheVariants as load_fault
use Rattle.command_kinds.specs.Changes.{Change, DiskBlameless, DiskCountsNoFault, HasDiskRoom}
use Rattle.command_kinds.specs.Findings.{Does, Finding, Refuses}
use Rattle.command_kinds.specs.declared.refusal.Refusal.{Refusal}
use Rattle.command_kinds.specs.declared.refusal.Refusal.TheVariants.{NotReplica, BadBatch, TooMany}
use Rattle.command_kinds.specs.declared.status.Status.{Status}

-- the file, where it is specified, is loaded as this replica, and its meaning ends there
abbrev pub FileHolds : DiskView → Replica → End → Type 0
FileHolds disk replica end = IfSome disk.past (λ h. Loads MOST_OPERATIONS h.last.seen replica end)

-- the file, where it is specified, is the cause of this refusal
abbrev pub FileRefuses : DiskView → Refusal → Type 0
FileRefuses disk NotReplica = IfSome disk.past (λ h. LoadAnswerIs MOST_OPERATIONS h.last.seen (Err load_fault.NotReplica))
FileRefuses disk (BadBatch slot) = IfSome disk.past (λ h. LoadAnswerIs MOST_OPERATIONS h.last.seen (Err (load_fault.BadBatch slot)))
FileRefuses disk (TooMany count) = IfSome disk.past (λ h. LoadAnswerIs MOST_OPERATIONS h.last.seen (Err (load_fault.TooMany count)))
FileRefuses disk _ = ⊥

-- the file holds a replica that leads to this
abbrev pub HolderFinds : {T : Type 0} → (Gives : Replica → End → Finding T → Type 0) → DiskView → Finding T → Type 0
HolderFinds Gives disk found = (replica : Replica) × (end : End) × FileHolds disk replica end × Gives replica end found

-- what a file leads to: it is refused, or what its replica leads to
abbrev pub FileFinds : {T : Type 0} → (Gives : Replica → End → Finding T → Type 0) → DiskView → Finding T → Type 0
FileFinds Gives disk (Refuses why) = FileRefuses disk why ⊎ HolderFinds Gives disk (Refuses why)
FileFinds Gives disk (Does done) = HolderFinds Gives disk (Does done)

-- what stands in the file, where it is specified
abbrev pub bytes_of : Option History → Option (List ℕ)
bytes_of past = option_map (λ (h : History). h.last.seen) past

-- The bytes are as at entry, a crash leaves nothing but what it could leave then, and a sure file that has room for a sync counts no fault.
pub record KeepsFile (file : Change DiskView) : Type 0 where
  pub bytes : bytes_of file.new.past ≡ bytes_of file.old.past
  pub past : (file.new.past ≡ past_after_step durable file.old.past) ⊎ (file.new.past ≡ file.old.past)
  pub moments : IfSome file.old.past (λ h. LeavesOnlyTo h file.new.past (MayLeave h))
  pub counts_no_fault : DiskCountsNoFault 1 file

-- a file that was only read is left so
pub record LeavesFile (file : Change DiskView) (end : Status) : Type 0 where
  pub keeps : KeepsFile file
  pub blameless : DiskBlameless file end

-- a call on the file failed while it was loaded
pub record LoadFailed (file : Change DiskView) : Type 0 where
  pub faulted : Faulted file.old.faults file.new.faults
  pub no_room : HasDiskRoom 1 file.old → ⊥
  pub keeps : KeepsFile file

-- what a file's header says
pub record Header : Type 0 where
  pub replica : ℕ
  pub hold : ℕ

-- the header of a file with this content: its replica and its hold
abbrev pub new_file_header : Content → Header
new_file_header content = record { replica = content.replica; hold = content.hold }

-- the bytes are a file with this header and these operations, in whatever batches
pub record HasOps (header : Header) (ops : List Op) (bytes : List ℕ) : Type 0 where
  pub content : Content
  pub holds : HasImage bytes (Holds content)
  pub header_is : new_file_header content ≡ header
  pub ops_are : content.ops ≡ ops

-- the operations, or these with more after them
abbrev pub HasOpsOr : Header → (ops more : List Op) → List ℕ → Type 0
HasOpsOr header ops more bytes = HasOps header ops bytes ⊎ HasOps header (ops ++ more) bytes

-- Once the file is loaded, which settles it, a crash leaves the content's operations, or these with all of those after
-- them; and a read gives what a crash may leave.
pub record GainsAllOrNone (ops : List Op) (h : History) (new : Option History) : Type 0 where
  pub content : Content
  pub holds : HasImage h.last.seen (Holds content)
  pub loads : LeavesOnly h (history_after_step durable h) (MayLeave h)
  pub gains : LeavesOnlyTo (history_after_step durable h) new (HasOpsOr (new_file_header content) content.ops ops)
  pub honest : IfSome new (λ k. IsHonest k.last)

-- The operations were saved after those of the file: a read gives all of them, and a crash leaves nothing else.
pub record AreSavedOps (ops : List Op) (h : History) (new : Option History) : Type 0 where
  pub moments : GainsAllOrNone ops h new
  pub has : IfSome new (λ k. HasOps (new_file_header moments.content) (moments.content.ops ++ ops) k.last.seen)
  pub rests : IfSome new (λ k. k.last ≡ at_rest k.last.seen)
