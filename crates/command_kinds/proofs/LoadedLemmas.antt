-- What a load leaves of a file, as a command tells it.
use Rattle.std.proofs.Common.{◌≡◌, inl, inr, refl, ap, subst, ◌∙◌}
use Rattle.std.specs.Prelude.{Option, Some, None, IfSome, Result, Ok, Err}
use Rattle.fugue_ids.specs.declared.limits.TheConstants.{MOST_OPERATIONS}
use Rattle.outer_ports.specs.disk.Disks.{DiskView, RoomView}
use Rattle.outer_ports.specs.disk.Moments.{History, past_after_step}
use Rattle.outer_ports.specs.disk.States.{durable}
use Rattle.origin_model.specs.edits.State.{State as Replica}
use Rattle.replica_file.specs.declared.load_file.End.{End}
use Rattle.replica_file.specs.declared.load_file.LoadFault.{LoadFault}
use Rattle.replica_file.specs.declared.load_file.LoadFault.TheVariants.{DiskFault}
use Rattle.replica_file.specs.Load.{LastsToLoad}
use Rattle.replica_file.specs.Loaded.{LoadMeets}
use Rattle.command_kinds.specs.Files.{KeepsFile, LoadFailed, bytes_of}
use Rattle.command_kinds.specs.Changes.{Change, HasDiskRoom}

-- the file was loaded as this replica
abbrev pub HasLoaded : Change DiskView → Replica → End → Type 0
HasLoaded file replica end = LoadMeets MOST_OPERATIONS file.old file.new (Ok (replica, end))

-- or it was not
abbrev pub HasNotLoaded : Change DiskView → LoadFault → Type 0
HasNotLoaded file fault = LoadMeets MOST_OPERATIONS file.old file.new (Err fault)

abbrev failed : Result (Replica × End) LoadFault
failed = Err DiskFault

-- room for one call lasts for what needs a call
one_call : (P : Type 0) (disk : DiskView) → IfSome disk.room (λ room. LastsToLoad room → P) → HasDiskRoom 1 disk → P
one_call P disk if has = let now = subst (λ o. IfSome o (λ (room : RoomView). LastsToLoad room → P)) has.is if in now has.calls_fit

-- a sync leaves what a read gives
settled_bytes : (old : Option History) → bytes_of (past_after_step durable old) ≡ bytes_of old
settled_bytes None = refl
settled_bytes (Some h) = refl

-- whatever a load answers, the file is kept
pub keeps_file : (file : Change DiskView) (result : Result (Replica × End) LoadFault) → LoadMeets MOST_OPERATIONS file.old file.new result → KeepsFile file
keeps_file file result meets = record {
  bytes = elim meets.synced [ inl is ↦ ap bytes_of is.0 ∙ settled_bytes file.old.past | inr still ↦ ap bytes_of still.1 ];
  past = elim meets.synced [ inl is ↦ inl is.0 | inr still ↦ inr still.1 ];
  moments = meets.moments;
  counts_no_fault = one_call (file.new.faults ≡ file.old.faults) file.old meets.faults.counts_no_fault;
}

pub load_failed : (file : Change DiskView) → HasNotLoaded file DiskFault → LoadFailed file
load_failed file meets = record {
  faulted = meets.faults.faulted refl;
  no_room = λ has. one_call (failed ≡ failed → ⊥) file.old meets.faults.sure has refl;
  keeps = keeps_file file failed meets;
}
